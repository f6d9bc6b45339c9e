-- `score::log_scaled` meets its contract. The loop's invariant is `Squared`: the bits so far, with those of the squarings left, are the definition's.
-- Assumes nothing.
use mathlib.Core.Path.{refl}
use Rattle.score.proofs.Turns.{starts, starts_squared, turn_one, turn_zero, square_fits, ends}
use Rattle.score.proofs.log_scaled.Goals as goal

pub overflow_mul-p : goal.overflow_mul-p
overflow_mul-p c = square_fits _ (rw c.from.ensures (starts c.args.n c.requires c.ranges.n.fits).normal.high)

pub loop-place-init : goal.loop-place-init
loop-place-init c = rw c.from.ensures (starts_squared _ _ c.requires c.ranges.n.fits refl)

pub loop-place-preserved-then-p-ge-TWO : goal.loop-place-preserved-then-p-ge-TWO
loop-place-preserved-then-p-ge-TWO c = search turn_one

pub loop-place-preserved : goal.loop-place-preserved
loop-place-preserved c = search turn_zero

pub returns : goal.returns
returns c = rw c.from-2.ensures (ends _ _ _ _ c.requires c.ranges.n.fits c.loop-place.invariant c.loop-place-test.false)
