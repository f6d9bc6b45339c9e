use Rattle.prefixes.proofs.Walks.{Walking}
use Rattle.prefixes.proofs.prefixes_at.Given as goal

abbrev pub invariant-loop-next : goal.invariant-loop-next
invariant-loop-next l = Walking l.tables.roots.now l.tables.slots.numbers.now l.used l.chars l.n l.at l.room l.taken l.initial.edge_ends l.initial.edge_records l.edge_ends l.edge_records l.count l.place l.next
