-- The slots' area: a length that stays the same keeps it one. Assumes nothing.
use Prim.Native.Nat.{ℕ}
use mathlib.Core.Path.{◌≡◌}
use Rattle.trie.specs.Trie.{SlotTable}

pub table_same : (numbers numbers' shift : ℕ) → numbers' ≡ numbers → SlotTable numbers shift → SlotTable numbers' shift
table_same numbers numbers' shift same table = rw same table
