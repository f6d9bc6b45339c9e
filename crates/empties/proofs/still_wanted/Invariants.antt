use mathlib.Core.Path.{◌≡◌}
use Prim.Native.Nat.{◌-◌}
use Rattle.trie.specs.Trie.{keys_of}
use Rattle.book.specs.Enter.{empty_slots}
use Rattle.empties.proofs.Empties.{wanted_from}
use Rattle.empties.proofs.still_wanted.Given as goal

abbrev pub invariant-loop-i : goal.invariant-loop-i
invariant-loop-i l = wanted_from (keys_of l.slots) l.i l.left ≡ l.count - empty_slots (keys_of l.slots)
