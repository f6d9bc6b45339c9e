use mathlib.Core.Path.{◌≡◌}
use lib.ListN.{length}
use Rattle.calc.proofs.Positions.{Written}
use Rattle.calc.proofs.calc.Given as goal

abbrev pub invariant-loop-i : goal.invariant-loop-i
invariant-loop-i l = (length l.scores ≡ length l.initial.scores)
    × (length l.ends ≡ length l.initial.ends)
    × (length l.records ≡ length l.initial.records)
    × Written l.starts l.edge_ends l.edge_records l.logarithms l.log_total l.n l.i l.scores l.ends l.records
