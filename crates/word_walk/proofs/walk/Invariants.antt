use mathlib.Core.Path.{◌≡◌}
use mathlib.Core.Option.{IsSome}
use Prim.Native.Nat.{◌-◌, ◌/◌, ◌≤◌}
use lib.ListN.{length}
use Rattle.trie.specs.Trie.{trie_of}
use Rattle.trie.specs.declared.ParentRef.TheVariants.{Root}
use Rattle.utf8.specs.Text.{chars_of, chars_from}
use Rattle.walk.specs.Walk.{Inside, walk_from}
use Rattle.word_walk.proofs.walk.Given as goal

abbrev pub invariant-loop-at : goal.invariant-loop-at
invariant-loop-at l = (l.at ≤ length l.s)
    × Inside (length l.tables.roots.now) (length l.tables.slots.numbers.now / 2) l.place
    × IsSome (chars_from l.s l.at)
    × (walk_from (trie_of l.tables.roots.now l.tables.slots.numbers.now) l.place (chars_from l.s l.at) ≡ walk_from (trie_of l.tables.roots.now l.tables.slots.numbers.now) Root (chars_of l.s))

abbrev pub decreases-loop-at : goal.decreases-loop-at
decreases-loop-at l = length l.s - l.at
