use Rattle.printing.proofs.Lines.{Putting}
use Rattle.printing.proofs.put_fours.Given as goal

abbrev pub invariant-loop-n : goal.invariant-loop-n
invariant-loop-n l = Putting l.numbers l.initial.out l.from l.out l.at l.n-index
