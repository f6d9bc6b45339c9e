use Rattle.cut_all_tokens.proofs.Positions.{Positioned}
use Rattle.cut_all_tokens.proofs.cut_all_tokens.Given as goal

abbrev pub invariant-loop-at : goal.invariant-loop-at
invariant-loop-at l = Positioned l.tables.roots.now l.tables.slots.numbers.now l.used l.chars l.offsets l.n l.base l.initial.tokens l.count-2 l.tokens l.count l.at
