-- The test of a number of slots. Document 01, "What each call returns": "a power of two of slots from 16 to 4,194,304". `Trie.SlotCount` says
-- the same by the logarithm; `Claims.SlotCountTested` says that the two agree.
-- Assumes nothing.
use Rattle.std.specs.Prelude.{ℕ, ◌^◌, Bool, ◌&&◌, leb, eqb}
use Rattle.trie.specs.Trie.{log2}

abbrev pub fewest_slots : ℕ
fewest_slots = 16

abbrev pub most_slots : ℕ
most_slots = 4194304

unfoldable pub slot_count : ℕ → Bool
slot_count n = leb fewest_slots n && leb n most_slots && eqb n (2 ^ log2 n)
