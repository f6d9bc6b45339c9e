-- What the tests of a book's sizes and of its head say, taken apart.
-- Assumes nothing.
use mathlib.Core.Path.{◌≡◌, refl}
use mathlib.Core.Bool.{Bool, true, false, ◌&&◌, ◌||◌}
use Prim.Native.Nat.{ℕ, ◌*◌, ◌≤◌}
use native.Mathlib.Omega.{arith}
use borrow.Author.Tests.{leb-true, ltb-false, eqb-true}
use lib.Dec.{leb, ltb, eqb}
use Rattle.trie.specs.SlotCounts.{slot_count}
use Rattle.book.specs.declared.Head.{Head}
use Rattle.book.specs.Returns.{most_entries, most_records, allowed, head_damaged, greatest_total, greatest_next}

-- ---- tests joined by and, and by or

both : (x y : Bool) → (x && y) ≡ true → (x ≡ true) × (y ≡ true)
both true y e = (refl, e)
both false y e = let z : ◌≡◌ {A = ℕ} 0 1 = cc in absurd (omega arith)

neither : (x y : Bool) → (x || y) ≡ false → (x ≡ false) × (y ≡ false)
neither true y e = let z : ◌≡◌ {A = ℕ} 0 1 = cc in absurd (omega arith)
neither false y e = (refl, e)

-- ---- sizes

pub record Sizes (root_children root_words keys children words records logarithms : ℕ) : Type 0 where
  pub roots_least : 1 ≤ root_children
  pub roots_most : root_children ≤ 65536
  pub root_words_lem : root_words ≡ root_children
  pub slots : slot_count keys ≡ true
  pub slot_children : children ≡ keys
  pub slot_words : words ≡ keys
  pub records_least : 1 ≤ records
  pub records_most : records ≤ most_records
  pub record_logarithms : logarithms ≡ records

pub sizes : (a b c d e f g : ℕ) → allowed a b c d e f g ≡ true → Sizes a b c d e f g
unfolding allowed
sizes a b c d e f g h =
    let p8 = both (leb 1 a && leb a most_entries && eqb b a && slot_count c && eqb d c && eqb e c && leb 1 f && leb f most_records) (eqb g f) h in
    let p7 = both (leb 1 a && leb a most_entries && eqb b a && slot_count c && eqb d c && eqb e c && leb 1 f) (leb f most_records) p8.0 in
    let p6 = both (leb 1 a && leb a most_entries && eqb b a && slot_count c && eqb d c && eqb e c) (leb 1 f) p7.0 in
    let p5 = both (leb 1 a && leb a most_entries && eqb b a && slot_count c && eqb d c) (eqb e c) p6.0 in
    let p4 = both (leb 1 a && leb a most_entries && eqb b a && slot_count c) (eqb d c) p5.0 in
    let p3 = both (leb 1 a && leb a most_entries && eqb b a) (slot_count c) p4.0 in
    let p2 = both (leb 1 a && leb a most_entries) (eqb b a) p3.0 in
    let p1 = both (leb 1 a) (leb a most_entries) p2.0 in
    record {
      roots_least = leb-true _ _ p1.0;
      roots_most = leb-true _ _ p1.1;
      root_words_lem = eqb-true _ _ p2.1;
      slots = p3.1;
      slot_children = eqb-true _ _ p4.1;
      slot_words = eqb-true _ _ p5.1;
      records_least = leb-true _ _ p6.1;
      records_most = leb-true _ _ p7.1;
      record_logarithms = eqb-true _ _ p8.1;
    }

-- ---- the head

pub record HeadWithin (h : Head) (records slots : ℕ) : Type 0 where
  pub slots_within : h.slots ≤ slots
  pub records_within : h.records ≤ records
  pub load : h.slots * 8 ≤ slots * 6
  pub total_most : h.total ≤ greatest_total
  pub next_least : 1 ≤ h.next
  pub next_most : h.next ≤ greatest_next

pub head_within : (h : Head) (records slots : ℕ) → head_damaged h records slots ≡ false → HeadWithin h records slots
unfolding head_damaged
head_within h records slots e =
    let p5 = neither (ltb slots h.slots || ltb records h.records || ltb (slots * 6) (h.slots * 8) || ltb greatest_total h.total || ltb
    h.next 1) (ltb greatest_next h.next) e in
    let p4 = neither (ltb slots h.slots || ltb records h.records || ltb (slots * 6) (h.slots * 8) || ltb greatest_total h.total)
    (ltb h.next 1) p5.0 in
    let p3 = neither (ltb slots h.slots || ltb records h.records || ltb (slots * 6) (h.slots * 8)) (ltb greatest_total h.total) p4.0 in
    let p2 = neither (ltb slots h.slots || ltb records h.records) (ltb (slots * 6) (h.slots * 8)) p3.0 in
    let p1 = neither (ltb slots h.slots) (ltb records h.records) p2.0 in
    record {
      slots_within = ltb-false _ _ p1.0;
      records_within = ltb-false _ _ p1.1;
      load = ltb-false _ _ p2.1;
      total_most = ltb-false _ _ p3.1;
      next_least = ltb-false _ _ p4.1;
      next_most = ltb-false _ _ p5.1;
    }
