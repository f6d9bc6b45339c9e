use Prim.Native.Nat.{◌+◌, ◌-◌, ◌≤◌}
use lib.ListN.{length}
use Rattle.sheets.proofs.Writing.{FillingLines}
use Rattle.sheets.proofs.fill_lines.Given as goal

abbrev pub invariant-loop-at : goal.invariant-loop-at
invariant-loop-at l = (l.at ≤ length l.sheet + 1) × FillingLines l.sheet l.initial.out l.out l.at l.written

abbrev pub decreases-loop-at : goal.decreases-loop-at
decreases-loop-at l = length l.sheet + 1 - l.at
