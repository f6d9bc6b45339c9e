-- `printing::put_digits` meets its contract: what is written, from the last digit on, with the digits that are left makes the whole (`Filling`). Assumes nothing.
use Rattle.printing.proofs.Lines.{digit_put}
use Rattle.printing.proofs.put_digits.Goals as goal

pub loop-i-preserved : goal.loop-i-preserved
loop-i-preserved g c = digit_put _ _ _ _ _ _ _ c.loop-i.invariant c.loop-i-test.true _ c.digit_of.ensures
