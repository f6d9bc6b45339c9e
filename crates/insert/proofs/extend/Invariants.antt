use Prim.Native.Nat.{◌-◌}
use lib.IntN.{pos}
use lib.ListN.{length, drop}
use Rattle.trie.specs.Trie.{trie_of, extend}
use Rattle.insert.specs.Insert.{characters}
use Rattle.insert.proofs.Extensions.{Extending}
use Rattle.insert.proofs.extend.Given as goal

abbrev pub invariant-loop-at : goal.invariant-loop-at
invariant-loop-at l = Extending l.initial.roots l.initial.slots l.s (pos l.number) (extend (trie_of l.initial.roots l.initial.slots) l.initial.place (characters (drop l.initial.at l.s)) l.initial.node (pos l.number)) l.roots l.slots l.place l.at l.node

abbrev pub decreases-loop-at : goal.decreases-loop-at
decreases-loop-at l = length l.s - l.at
