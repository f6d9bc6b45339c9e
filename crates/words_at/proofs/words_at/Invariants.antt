use Rattle.words_at.proofs.Walks.{Walking}
use Rattle.words_at.proofs.words_at.Given as goal

abbrev pub invariant-loop-next : goal.invariant-loop-next
invariant-loop-next l = Walking l.tables.roots.now l.tables.slots.numbers.now l.used l.chars l.offsets l.n l.at l.base l.initial.tokens l.count-2 l.tokens l.count l.place l.next
