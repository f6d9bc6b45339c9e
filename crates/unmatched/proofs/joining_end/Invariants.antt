use Rattle.tokens.proofs.Ends.{Running}
use Rattle.unmatched.proofs.Joining.{joins_at}
use Rattle.unmatched.proofs.joining_end.Given as goal

abbrev pub invariant-loop-y : goal.invariant-loop-y
invariant-loop-y l = Running (joins_at l.chars) l.n l.from l.y
