use Rattle.score.proofs.Turns.{Squared}
use Rattle.score.proofs.log_scaled.Given as goal

abbrev pub invariant-loop-place : goal.invariant-loop-place
invariant-loop-place l = Squared l.n l.p l.bits l.place
