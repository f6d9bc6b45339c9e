-- What is claimed of the definitions of `Trie`: where probes start and end, which bits a character has, that an insertion sets
-- the bits that a lookup tests, that a walk may step from the numbers that it has read, and that the tables tell every number that is lent.
-- Proofs: `proofs/SlotCounts.antt`, `proofs/Probes.antt`, `proofs/Steps.antt`, `proofs/Packed.antt`.
-- Assumes nothing.
use Rattle.std.specs.Prelude.{ℕ, ◌-◌, ◌%◌, ◌^◌, ◌≤◌, ◌<◌, true, List, ◌≡◌, length, get_or, Ok}
use Rattle.trie.specs.declared.ParentRef.TheVariants.{RootEntry, Slot}
use Rattle.trie.specs.declared.Probe.TheVariants.{Found, Empty}
use Rattle.trie.specs.Trie.{CharTrie, trie_of, SlotCount, start_slot, probe_of, empty_slot, key_bit, child_bit, bits_at, with_bits, tested_step, step_from}
use Rattle.trie.specs.SlotCounts.{slot_count}

-- the test of a number of slots is true of exactly the numbers that 01 allows
abbrev pub SlotCountTested : Type 0
SlotCountTested = (n : ℕ) → (slot_count n ≡ true → SlotCount n) × (SlotCount n → slot_count n ≡ true)

-- a probe starts at a slot
abbrev pub StartsAtSlot : Type 0
StartsAtSlot = (slots key : ℕ) → SlotCount slots → start_slot slots key < slots

-- a probe that finds its key ends at a slot whose low 48 bits are the key
abbrev pub FoundHasKey : Type 0
FoundHasKey = (keys : List ℕ) (key i : ℕ) → SlotCount (length keys) → probe_of keys key ≡ Ok (Found i) → (i < length keys) × (get_or keys i 0 % 2 ^ 48 ≡ key)

-- one that does not ends at an empty slot
abbrev pub EmptyHasNoKey : Type 0
EmptyHasNoKey = (keys : List ℕ) (key i : ℕ) → SlotCount (length keys) → probe_of keys key ≡ Ok (Empty i) → (i < length keys) × (get_or keys i 0 ≡ 0)

-- a new step goes to an empty slot
abbrev pub EmptySlotIsEmpty : Type 0
EmptySlotIsEmpty = (keys : List ℕ) (key i : ℕ) → SlotCount (length keys) → empty_slot keys key ≡ Ok i → (i < length keys) × (get_or keys i 0 ≡ 0)

-- the bits of a character lie above a key's low 48 bits, and above a child's node
abbrev pub KeyBitRange : Type 0
KeyBitRange = (ch : ℕ) → (48 ≤ key_bit ch) × (key_bit ch < 64)

abbrev pub ChildBitRange : Type 0
ChildBitRange = (ch : ℕ) → (24 ≤ child_bit ch) × (child_bit ch < 32)

-- the bits that an insertion sets at a place are those that a lookup tests there
abbrev pub SetsTestedBits : Type 0
SetsTestedBits =
    (t : CharTrie) (ch i : ℕ)
    → (i < length t.root_children → bits_at (with_bits t (RootEntry i) ch) (RootEntry i) ch ≡ true)
    × (i < length t.keys → i < length t.children → bits_at (with_bits t (Slot i) ch) (Slot i) ch ≡ true)

-- a step from a slot is a step from its key and its child
abbrev pub StepsFromSlot : Type 0
StepsFromSlot = (t : CharTrie) (i ch : ℕ) → tested_step t (Slot i) ch ≡ step_from t.keys (get_or t.keys i 0) (get_or t.children i 0) ch

-- the filter of a root entry, which has no key
abbrev pub all_ones : ℕ
all_ones = 2 ^ 64 - 1

-- a step from a root entry is a step from all ones and its child
abbrev pub StepsFromRootEntry : Type 0
StepsFromRootEntry = (t : CharTrie) (i ch : ℕ) → tested_step t (RootEntry i) ch ≡ step_from t.keys all_ones (get_or t.root_children i 0) ch

-- what a contract says of the tables, it says of the slices, number for number
abbrev pub TablesTellSlices : Type 0
TablesTellSlices = (roots slots roots' slots' : List ℕ) → trie_of roots slots ≡ trie_of roots' slots' → (roots ≡ roots') × (slots ≡ slots')
