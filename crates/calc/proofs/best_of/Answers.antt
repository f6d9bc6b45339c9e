-- `calc::best_of` meets its contract. The loop's invariant is `Scanned`. What is required of each place says that an edge's record and its end stand
-- within the slices that they index.
-- Assumes nothing.
use Prim.Native.Nat.{◌<◌}
use native.Mathlib.Omega.{arith}
use lib.ListN.{length, get_or}
use Rattle.calc.proofs.Edges.{scan_starts, scan_edge, scan_ends}
use Rattle.calc.proofs.best_of.Goals as goal
use Rattle.calc.proofs.best_of.Goals.{In-loop-place}

-- the edge at the loop's place stands within the slices that it leads to
end_within : (c : goal.In-loop-place)
    → get_or c.args.edge_ends.now c.loop-place.place 0 < length c.args.scores.now
end_within c = c.requires.scored c.loop-place.place c.loop-place.invariant.first c.loop-place-test.true

record_within : (c : goal.In-loop-place)
    → get_or c.args.edge_records.now c.loop-place.place 0 < length c.args.logarithms.now
record_within c = c.requires.known c.loop-place.place c.loop-place.invariant.first c.loop-place-test.true

pub loop-place-init : goal.loop-place-init
loop-place-init c = search scan_starts

pub overflow_cast-logarithm : goal.overflow_cast-logarithm
overflow_cast-logarithm c = omega (arith, record_within (goal.at.overflow_cast-logarithm c).In-loop-place)

pub offset_bounds-logarithms-record : goal.offset_bounds-logarithms-record
offset_bounds-logarithms-record c = omega (arith, record_within (goal.at.offset_bounds-logarithms-record c).In-loop-place)

pub bounds-logarithms-record : goal.bounds-logarithms-record
bounds-logarithms-record c = record_within (goal.at.bounds-logarithms-record c).In-loop-place

pub overflow_cast-score : goal.overflow_cast-score
overflow_cast-score c = omega (arith, end_within (goal.at.overflow_cast-score c).In-loop-place)

pub offset_bounds-scores-end : goal.offset_bounds-scores-end
offset_bounds-scores-end c = omega (arith, end_within (goal.at.offset_bounds-scores-end c).In-loop-place)

pub bounds-scores-end : goal.bounds-scores-end
bounds-scores-end c = end_within (goal.at.bounds-scores-end c).In-loop-place

pub loop-place-preserved : goal.loop-place-preserved
loop-place-preserved c =
    scan_edge _ _ _ _ _ _ _ _ _ _ _
    c.loop-place.invariant
    c.loop-place-test.true
    c.next_choice-choice.ensures.result_value
    c.next_choice-choice.ensures.fact

pub returns : goal.returns
returns c = let all = scan_ends _ _ _ _ _ _ _ _ _ c.loop-place.invariant c.loop-place-test.false in record { result_value = all.0; chosen_of = all.1 }
