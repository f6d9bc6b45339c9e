-- `insert::mark` meets its contract: the loop's invariant, `Marking`, says that the marks still to be made, from the place and the position on, are those of
-- the whole word. Assumes nothing.
use mathlib.Core.Path.{ap, ◌∙◌}
use native.Mathlib.Omega.{arith}
use Rattle.std.specs.Prelude.{Ok}
use Rattle.utf8.proofs.Positions.{inside, value_below}
use Rattle.insert.proofs.Marks.{begins, ends, ends_absent, ends_damaged, goes_on, still_inside}
use Rattle.insert.proofs.mark.Goals as goal
use Rattle.insert.proofs.mark.Goals.{After-next_char-next}

pub loop-at-init : goal.loop-at-init
loop-at-init c = begins _ _ _ c.requires.some

pub open_step-requires : goal.open_step-requires
open_step-requires c = (still_inside c.loop-at.invariant, value_below _ _ _ _ _ c.next_char-next.ensures)

pub set_bits-requires : goal.set_bits-requires
set_bits-requires c = still_inside c.loop-at.invariant

pub overflow_add-at : goal.overflow_add-at
overflow_add-at c = omega (arith, inside _ _ _ _ _ c.next_char-next.ensures, (goal.at.overflow_add-at c).After-next_char-next)

pub loop-at-smaller : goal.loop-at-smaller
loop-at-smaller c = omega (arith, inside _ _ _ _ _ c.next_char-next.ensures, (goal.at.loop-at-smaller c).After-next_char-next)

pub loop-at-preserved : goal.loop-at-preserved
loop-at-preserved c =
    goes_on c.loop-at.invariant c.next_char-next.ensures c.open_step.ensures _ _ c.set_bits.ensures c.set_bits.auto.roots
    c.set_bits.auto.slots c.requires.slot_table (c.in_ok-child.was ∙ ap Ok c.in-Some.is)

pub shape_of-roots-in_default : goal.shape_of-roots-in_default
shape_of-roots-in_default c = c.loop-at.invariant.entries

pub shape_of-slots-in_default : goal.shape_of-slots-in_default
shape_of-slots-in_default c = c.loop-at.invariant.numbers

pub returns-in_default : goal.returns-in_default
returns-in_default c = let all = ends_absent c.loop-at.invariant c.next_char-next.ensures c.open_step.ensures (c.in_ok-child.was ∙ ap Ok c.in_default.is) in record { ready = all.0; slots_value = all.1 }

pub shape_of-roots-in_err-child : goal.shape_of-roots-in_err-child
shape_of-roots-in_err-child c = c.loop-at.invariant.entries

pub shape_of-slots-in_err-child : goal.shape_of-slots-in_err-child
shape_of-slots-in_err-child c = c.loop-at.invariant.numbers

pub returns-in_err-child : goal.returns-in_err-child
returns-in_err-child c = let all = ends_damaged c.loop-at.invariant c.next_char-next.ensures c.open_step.ensures _ c.in_err-child.was _ c.from_residual.ensures.0 in record { ready = all.0; slots_value = all.1 }

pub shape_of-roots : goal.shape_of-roots
shape_of-roots c = c.loop-at.invariant.entries

pub shape_of-slots : goal.shape_of-slots
shape_of-slots c = c.loop-at.invariant.numbers

pub returns : goal.returns
returns c = let all = ends c.loop-at.invariant c.loop-at-test.false in record { ready = all.0; slots_value = all.1 }
