-- What the test of the areas' sizes says: of the lists that the slices hold, and for the calls behind it.
-- Assumes nothing.
use mathlib.Core.Path.{◌≡◌, refl}
use mathlib.Core.Bool.{Bool, true, false, ◌&&◌, and-true, and-false}
use mathlib.Core.List.{List}
use Prim.Native.Nat.{ℕ, ◌+◌, ◌-◌, ◌*◌, ◌/◌, ◌%◌, ◌^◌, ◌≤◌}
use native.Mathlib.Omega.{arith}
use borrow.Author.Tests.{eq-eqb, ne_eqb, eqb-true, eqb-false}
use lib.Dec.{leb, eqb}
use lib.ListN.{length}
use lib.Ieee.{Float}
use Rattle.trie.specs.Trie.{log2, SlotCount, SlotTable, links_of, trie_of}
use Rattle.trie.specs.SlotCounts.{most_slots, slot_count}
use Rattle.trie.proofs.Packed.{length_children, length_words, length_keys, length_links, keys_whole}
use Rattle.trie.proofs.SlotCounts.{slot_count_tested, size}
use Rattle.book.specs.Returns.{cell_frequency, most_entries, most_records, greatest_total, allowed, sized, damaged_head, head_damaged}
use Rattle.book.specs.Enter.{new_cell, cell_with_frequency}
use Rattle.book.specs.declared.Head.{Head}
use Rattle.book.specs.Areas.{areas_allowed, book_of}
use Rattle.book.proofs.Sizes.{Sizes, sizes}

-- ---- the test as the code makes it

-- an odd number of numbers has a key more than links, and is refused for that; an even one has as many
module _ (roots slots records logarithms : ℕ) where
  abbrev coded : Bool → Bool → Bool
  coded count even = leb 1 roots && leb roots most_entries && count && even && leb 1 records && leb records most_records && eqb logarithms records

  by_parity : (even : Bool) → eqb (slots % 2) 0 ≡ even → coded (slot_count (slots / 2)) even ≡ areas_allowed roots slots records logarithms
  unfolding allowed
  by_parity true e =
      let whole : slots % 2 ≡ 0 = eqb-true (slots % 2) 0 e in
      let same : (slots + 1) / 2 ≡ slots / 2 = omega arith in
      rw (same, eq-eqb roots roots refl, eq-eqb (slots / 2) (slots / 2) refl, and-true, and-true, and-true, and-true)
  by_parity false e =
      let odd : slots % 2 ≡ 0 → ⊥ = eqb-false (slots % 2) 0 e in
      let other : slots / 2 ≡ (slots + 1) / 2 → ⊥ = λ (h : slots / 2 ≡ (slots + 1) / 2). odd (omega arith) in
      rw (ne_eqb (slots / 2) ((slots + 1) / 2) other, and-false, and-false)

  pub allowed_coded : (count : Bool) → count ≡ slot_count (slots / 2) → coded count (eqb (slots % 2) 0) ≡ areas_allowed roots slots records logarithms
  allowed_coded count e = rw e (by_parity (eqb (slots % 2) 0) refl)

  -- ---- what it gives the calls behind it

  module _ (h : areas_allowed roots slots records logarithms ≡ true) where
    parts : Sizes roots roots ((slots + 1) / 2) (slots / 2) (slots / 2) records logarithms
    parts = sizes roots roots ((slots + 1) / 2) (slots / 2) (slots / 2) records logarithms h

    pub slots_whole : slots % 2 ≡ 0
    slots_whole = let e = parts.slot_children in omega arith

    pub slots_counted : slot_count (slots / 2) ≡ true
    slots_counted = rw parts.slot_children parts.slots

    pub slot_table : (shift : ℕ) → shift ≡ 64 - log2 (slots / 2) → SlotTable slots shift
    slot_table shift e = record { slot_count = (slot_count_tested (slots / 2)).0 slots_counted; whole = slots_whole; shifted = e }

    pub slots_most : slots / 2 ≤ most_slots
    slots_most = (size (slots / 2) ((slot_count_tested (slots / 2)).0 slots_counted)).1

    pub slots_allowed : SlotCount (slots / 2)
    slots_allowed = (slot_count_tested (slots / 2)).0 slots_counted

    pub records_most : records ≤ most_records
    records_most = parts.records_most

    pub logarithms_same : logarithms ≡ records
    logarithms_same = parts.record_logarithms

-- ---- records

pub cell_frequency_is : (cell : ℕ) → cell % 2 ^ 32 ≡ cell_frequency cell
unfolding cell_frequency
cell_frequency_is cell = refl

pub cell_with_frequency_is : (cell frequency : ℕ) → cell / 2 ^ 32 * 2 ^ 32 + frequency ≡ cell_with_frequency cell frequency
unfolding cell_with_frequency
cell_with_frequency_is cell frequency = refl

-- what was written to a record is read
pub new_frequency : (frequency : ℕ) → frequency ≤ greatest_total → cell_frequency (new_cell frequency) ≡ frequency
unfolding cell_frequency
new_frequency frequency fits = omega arith

pub other_frequency : (cell frequency : ℕ) → frequency ≤ greatest_total → cell_frequency (cell_with_frequency cell frequency) ≡ frequency
unfolding cell_frequency cell_with_frequency
other_frequency cell frequency fits = omega arith

-- ---- the sizes and the head of a book, by the numbers that are lent

module _ (head : Head) (roots slots records : List ℕ) (logarithms : List Float) where
  pub sized_lent : areas_allowed (length roots) (length slots) (length records) (length logarithms)
      ≡ sized (book_of head (trie_of roots slots) records logarithms)
  sized_lent =
      rw (
        length_children roots,
        length_words roots,
        length_keys slots,
        length_children (links_of slots),
        length_words (links_of slots),
        length_links slots,
      )

  pub damaged_lent : length slots % 2 ≡ 0
      → head_damaged head (length records) (length slots / 2) ≡ damaged_head (book_of head (trie_of roots slots) records logarithms)
  damaged_lent whole = rw (keys_whole slots whole)
