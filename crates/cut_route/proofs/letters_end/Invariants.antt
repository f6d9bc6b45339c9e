use Rattle.tokens.proofs.Ends.{Running}
use Rattle.cut_route.proofs.Letters.{letter_at}
use Rattle.cut_route.proofs.letters_end.Given as goal

abbrev pub invariant-loop-y : goal.invariant-loop-y
invariant-loop-y l = Running (letter_at l.chars l.ends) l.n l.from l.y
