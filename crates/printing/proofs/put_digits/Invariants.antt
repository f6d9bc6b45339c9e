use Rattle.printing.proofs.Lines.{Filling}
use Rattle.printing.proofs.put_digits.Given as goal

abbrev pub invariant-loop-i : goal.invariant-loop-i
invariant-loop-i g l = Filling l.initial.out l.at g.row.N l.n l.out l.i l.rest
