use Prim.Native.Nat.{◌-◌}
use lib.ListN.{length}
use Rattle.trie.specs.Trie.{trie_of}
use Rattle.blocks.proofs.Sentences.{SameLong, Cutting}
use Rattle.blocks.proofs.cut_blocks.Given as goal

abbrev pub invariant-loop-plan : goal.invariant-loop-plan
invariant-loop-plan l = SameLong l.chars l.initial.chars l.offsets l.initial.offsets l.starts l.initial.starts l.scores l.initial.scores l.ends l.initial.ends l.records l.initial.records l.edge_ends l.initial.edge_ends l.edge_records l.initial.edge_records
    l.tokens l.initial.tokens
    × Cutting (trie_of l.roots l.slots) l.logarithms l.plan l.room l.sentence l.initial.tokens l.tokens l.at l.units l.base l.count

abbrev pub decreases-loop-plan : goal.decreases-loop-plan
decreases-loop-plan l = length l.sentence - l.at
