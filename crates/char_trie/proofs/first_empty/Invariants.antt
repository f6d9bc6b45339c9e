use mathlib.Core.Path.{◌≡◌}
use Prim.Native.Nat.{◌-◌, ◌/◌, ◌<◌}
use lib.ListN.{length}
use Rattle.trie.specs.Trie.{keys_of, empty_from, empty_slot}
use Rattle.char_trie.proofs.first_empty.Given as goal

abbrev pub invariant-loop : goal.invariant-loop
invariant-loop l = (l.i < length l.numbers / 2)
    × (empty_from (length l.numbers / 2 - l.counter) (keys_of l.numbers) l.i ≡ empty_slot (keys_of l.numbers) l.key)
