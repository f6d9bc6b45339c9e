-- `calc::calc` meets its contract. The loop's invariant is `Written`, with the slices as long as they were. Position n is written before the loop
-- (`write_end`), each turn adds a position (`write_position`), and at position 0 the route is the block's (`write_start`).
-- Assumes nothing.
use Prim.Native.Nat.{◌+◌, ◌-◌}
use mathlib.Core.Path.{◌≡◌, refl, ◌∙◌}
use native.Mathlib.Omega.{arith}
use lib.Ieee.{of_bits, of_int}
use lib.ListN.{length-set}
use Rattle.score.specs.Scores.{float_of}
use Rattle.calc.proofs.Positions.{write_end, places_fit, write_position, write_start}
use Rattle.calc.proofs.calc.Goals as goal
use Rattle.calc.proofs.calc.Goals.{In-loop-i}

pub loop-i-init : goal.loop-i-init
unfolding of_bits of_int float_of
loop-i-init c = (refl, refl, refl, search write_end)

-- the position after this turn's is the one before which the turn began
next_is : (c : goal.In-loop-i) → c.loop-i.i - 1 + 1 ≡ c.loop-i.i
next_is c = omega arith

pub best_of-choice-requires : goal.best_of-choice-requires
best_of-choice-requires c =
    rw (next_is (goal.at.best_of-choice-requires c).In-loop-i)
    (places_fit _ _ _ c.args.logarithms.now c.args.log_total _ _ _ c.requires.edges_fit (omega arith) c.loop-i.scores c.loop-i.invariant.3.inside c.loop-i.invariant.3.scores_long)

pub loop-i-preserved : goal.loop-i-preserved
loop-i-preserved c = (
  length-set c.loop-i.scores _ _ ∙ c.loop-i.invariant.0,
  length-set c.loop-i.ends _ _ ∙ c.loop-i.invariant.1,
  length-set c.loop-i.records _ _ ∙ c.loop-i.invariant.2,
  write_position _ _ _ _ _ _ _ _ c.requires.edges_fit (omega arith) _ _ _
      c.best_of-choice.result
      _
      c.loop-i.invariant.3
      (rw (next_is (goal.at.loop-i-preserved c).In-loop-i) at c.best_of-choice.ensures.result_value)
      (rw (next_is (goal.at.loop-i-preserved c).In-loop-i) at c.best_of-choice.ensures.chosen_of)
      (rw (next_is (goal.at.loop-i-preserved c).In-loop-i) at c.settle-entry.ensures.result_value)
      c.settle-entry.ensures.record_value,
)

pub shape_of-scores : goal.shape_of-scores
shape_of-scores c = c.loop-i.invariant.0 ∙ simp length-set

pub shape_of-ends : goal.shape_of-ends
shape_of-ends c = c.loop-i.invariant.1 ∙ simp length-set

pub shape_of-records : goal.shape_of-records
shape_of-records c = c.loop-i.invariant.2 ∙ simp length-set

pub returns : goal.returns
returns c = write_start _ _ _ _ _ _ _ _ _ _ (omega arith) c.loop-i.invariant.3
