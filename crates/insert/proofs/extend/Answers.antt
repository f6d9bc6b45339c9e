-- `insert::extend` meets its contract: the loop's invariant, `Extending`, says that the extension still to be made, from the place and the position on, comes
-- to that of the whole. Assumes nothing.
use mathlib.Core.Path.{◌∙◌}
use native.Mathlib.Omega.{arith}
use Rattle.utf8.proofs.Positions.{inside, value_below}
use Rattle.insert.proofs.Extensions.{begins, ends, stops, goes_on, still_inside, still_table}
use Rattle.insert.proofs.extend.Goals as goal
use Rattle.insert.proofs.extend.Goals.{After-next_char-next}

pub loop-at-init : goal.loop-at-init
loop-at-init c =
    let pre = c.requires in
    begins _ _ _ _ _ _ _ pre.inside pre.some pre.s_bound.0

pub new_step-step-requires : goal.new_step-step-requires
new_step-step-requires c = record { slot_table = still_table c.loop-at.invariant c.requires.slot_table; inside = still_inside c.loop-at.invariant; ch_bound = value_below _ _ _ _ _ c.next_char-next.ensures }

pub shape_of-roots-in_default : goal.shape_of-roots-in_default
shape_of-roots-in_default c = c.new_step-step.auto.roots ∙ c.loop-at.invariant.entries

pub shape_of-slots-in_default : goal.shape_of-slots-in_default
shape_of-slots-in_default c = c.new_step-step.auto.slots ∙ c.loop-at.invariant.numbers

pub returns-in_default : goal.returns-in_default
returns-in_default c =
    stops c.loop-at.invariant c.next_char-next.ensures _ _ c.new_step-step.ensures _ c.in_default.is

pub overflow_add-at : goal.overflow_add-at
overflow_add-at c = omega (arith, inside _ _ _ _ _ c.next_char-next.ensures, (goal.at.overflow_add-at c).After-next_char-next)

pub overflow_add-node : goal.overflow_add-node
overflow_add-node c = omega (arith, inside _ _ _ _ _ c.next_char-next.ensures, (goal.at.overflow_add-node c).After-next_char-next)

pub loop-at-smaller : goal.loop-at-smaller
loop-at-smaller c = omega (arith, inside _ _ _ _ _ c.next_char-next.ensures, (goal.at.loop-at-smaller c).After-next_char-next)

pub loop-at-preserved : goal.loop-at-preserved
loop-at-preserved c =
    goes_on c.loop-at.invariant c.next_char-next.ensures _ _ c.new_step-step.ensures c.new_step-step.auto.roots c.new_step-step.auto.slots c.requires.slot_table
    c.in-Ok.is

pub set_word-requires : goal.set_word-requires
set_word-requires c = record { inside = still_inside c.loop-at.invariant; number_bound = c.requires.s_bound.1 }

pub shape_of-roots : goal.shape_of-roots
shape_of-roots c = c.set_word.auto.roots ∙ c.loop-at.invariant.entries

pub shape_of-slots : goal.shape_of-slots
shape_of-slots c = c.set_word.auto.slots ∙ c.loop-at.invariant.numbers

pub returns : goal.returns
returns c =
    ends c.loop-at.invariant _ c.loop-at-test.false c.set_word.ensures
