-- `counts::decide_held` meets its contract: each `return` is the case of `replace_by` that the tests before it say. Assumes nothing.
use mathlib.Core.Path.{refl}
use native.Mathlib.Omega.{arith}
use Rattle.book.proofs.Decisions.{old_too_large, held_passes, held_enters}
use Rattle.counts.proofs.decide_held.Goals as goal

pub returns-then-total-old : goal.returns-then-total-old
returns-then-total-old c = let a = c.args in old_too_large a.total a.old a.n a.frequency (omega arith)

pub returns-then-new-gt-GREATEST_TOTAL : goal.returns-then-new-gt-GREATEST_TOTAL
returns-then-new-gt-GREATEST_TOTAL c = let a = c.args in held_passes a.total a.old a.n a.frequency (omega arith) (omega arith)

pub returns : goal.returns
returns c = let a = c.args in held_enters a.total a.old a.n a.frequency (omega arith) _ refl (omega arith)
