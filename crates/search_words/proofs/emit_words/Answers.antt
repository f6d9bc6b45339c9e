-- `search_words::emit_words` meets its contract. The loop's invariant is `WordsPut`: the words that end before `end` are written. Each turn takes the
-- stretch that
-- ends there. Assumes nothing.
use Rattle.std.specs.Prelude.{Err}
use Rattle.std.proofs.Common.{rules}
use mathlib.Core.Path.{◌≡◌}
use native.Mathlib.Omega.{arith}
use Rattle.search_words.proofs.Turns.{words_begin, words_none, words_end, word_refused, word_put}
use Rattle.search_words.proofs.emit_words.Goals as goal
use Rattle.search_words.proofs.emit_words.Goals.{After-from_residual}

pub loop-end-init : goal.loop-end-init
loop-end-init c = words_begin _ _ _ _ _ _ _ _ _ (omega (arith, c.if-size-y.true))

pub overflow_sub-at : goal.overflow_sub-at
overflow_sub-at c = omega (arith, c.loop-end.invariant.first)

pub push_gram-requires : goal.push_gram-requires
push_gram-requires c = let inside = c.loop-end-test.true in
    let sized = c.loop-end.invariant.first in
    let pre = c.requires in record { at_lt_end = (omega (arith, sized, pre.size_nonzero), omega (arith, inside, pre.size_nonzero), omega (arith, inside, pre.size_nonzero), omega (arith, inside, pre.size_nonzero)); ends_rise_at = pre.ends_rise _ (omega (arith, inside, sized, pre.size_nonzero)) }

refused_as : (c : goal.After-from_residual) → c.from_residual.result ≡ Err c.in_err-count.field-0.0
refused_as c = search rules

pub returns-in_err-count : goal.returns-in_err-count
returns-in_err-count c =
    rw (refused_as c)
    (word_refused _ _ _ _ _ _ _ _ _ c.loop-end.invariant (omega (arith, c.loop-end-test.true)) c.requires.size_nonzero.0 c.push_gram.result _
    c.push_gram.ensures
    c.in_err-count.was)

pub loop-end-preserved : goal.loop-end-preserved
loop-end-preserved c =
    word_put _ _ _ _ _ _ _ _ _ c.loop-end.invariant (omega (arith, c.loop-end-test.true)) c.requires.size_nonzero.0 c.push_gram.result _
    c.push_gram.ensures
    c.in_ok-count.was
    c.push_gram.auto.tokens

pub returns-after-loop-end : goal.returns-after-loop-end
returns-after-loop-end c = words_end _ _ _ _ _ _ _ _ _ c.loop-end.invariant (omega (arith, c.loop-end-test.false))

pub returns-else-size-y : goal.returns-else-size-y
returns-else-size-y c = words_none _ _ _ _ _ _ _ _ _ (omega (arith, c.if-size-y.false))
