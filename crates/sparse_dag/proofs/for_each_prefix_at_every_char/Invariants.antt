use Rattle.sparse_dag.proofs.Blocks.{Joining}
use Rattle.sparse_dag.proofs.for_each_prefix_at_every_char.Given as goal

abbrev pub invariant-loop-at : goal.invariant-loop-at
invariant-loop-at l = Joining l.tables.roots.now l.tables.slots.numbers.now l.used l.chars l.n l.room l.initial.starts l.initial.edge_ends l.initial.edge_records l.starts l.edge_ends l.edge_records l.count l.at
