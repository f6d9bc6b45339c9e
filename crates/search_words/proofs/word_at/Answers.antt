-- `search_words::word_at` meets its contract. The loop's invariant is `Looking`: the edges passed end earlier than the word would. Assumes nothing.
use native.Mathlib.Omega.{arith}
use Rattle.search_words.proofs.Words.{looking_begins, looks_on, finds, finds_none}
use Rattle.search_words.proofs.word_at.Goals as goal

pub loop-place-init : goal.loop-place-init
loop-place-init c = looking_begins _ _ _ _

pub returns-then-end-reached : goal.returns-then-end-reached
returns-then-end-reached c =
    finds _ _ _ _ c.loop-place.invariant c.requires.1 c.loop-place-test.true (omega (arith, c.if-end-reached.true))

pub loop-place-preserved : goal.loop-place-preserved
loop-place-preserved c =
    looks_on _ _ _ _ c.loop-place.invariant c.loop-place-test.true (omega (arith, c.if-end-reached.false))

pub returns : goal.returns
returns c = finds_none _ _ _ _ c.loop-place.invariant c.loop-place-test.false
