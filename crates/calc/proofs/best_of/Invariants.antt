use Rattle.calc.proofs.Edges.{Scanned}
use Rattle.calc.proofs.best_of.Given as goal

abbrev pub invariant-loop-place : goal.invariant-loop-place
invariant-loop-place l = Scanned l.edge_ends l.edge_records l.logarithms l.scores l.log_total l.from l.to l.choice l.place
