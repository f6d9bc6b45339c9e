-- `lookup::test_word` meets its contract: each `return` is the case of `tested_word` that the tests before it say; that of a word too long by
-- the lemma that the function names. Assumes nothing.
use Rattle.std.specs.Prelude.{Err}
use Rattle.std.proofs.Common.{◌≡◌, rules}
use Rattle.book.specs.declared.Refusal.TheVariants.{Malformed}
use native.Mathlib.Omega.{arith}
use Rattle.lookup.proofs.Tests.{areas_refused, malformed, counts}
use Rattle.lookup.proofs.test_word.Goals as goal
use Rattle.lookup.proofs.test_word.Goals.{After-from_residual}

pub returns-then-not-is_allowed : goal.returns-then-not-is_allowed
returns-then-not-is_allowed c = areas_refused _ _ c.is_allowed.ensures c.if-not-is_allowed.true

refused : (c : goal.After-from_residual) → (c.char_count.result ≡ Err (record {})) × (c.from_residual.result ≡ Err Malformed)
refused c = search rules

pub returns-in_err-count : goal.returns-in_err-count
returns-in_err-count c =
    rw (refused c).1 (malformed _ _ c.is_allowed.ensures c.if-not-is_allowed.false (omega arith) c.char_count.ensures (refused c).0)

pub returns : goal.returns
returns c = counts _ _ c.is_allowed.ensures c.if-not-is_allowed.false (omega arith) c.char_count.ensures c.in_ok-count.was
