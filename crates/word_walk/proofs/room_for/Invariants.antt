use mathlib.Core.Path.{◌≡◌}
use mathlib.Core.Option.{IsSome}
use Prim.Native.Nat.{◌-◌, ◌/◌, ◌≤◌}
use lib.ListN.{length}
use Rattle.trie.specs.Trie.{trie_of}
use Rattle.utf8.specs.Text.{chars_of, chars_from}
use Rattle.walk.specs.Walk.{Inside, room_from, room_of}
use Rattle.word_walk.proofs.room_for.Given as goal

abbrev pub invariant-loop-at : goal.invariant-loop-at
invariant-loop-at l = (l.at ≤ length l.s)
    × Inside (length l.tables.roots.now) (length l.tables.slots.numbers.now / 2) l.place
    × IsSome (chars_from l.s l.at)
    × (room_from l.used (trie_of l.tables.roots.now l.tables.slots.numbers.now) l.place (chars_from l.s l.at)
    ≡ room_of l.used (trie_of l.tables.roots.now l.tables.slots.numbers.now) (chars_of l.s))

abbrev pub decreases-loop-at : goal.decreases-loop-at
decreases-loop-at l = length l.s - l.at
