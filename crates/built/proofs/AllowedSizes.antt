-- The test of the sizes as facts about them, both ways.
-- Assumes nothing.
use mathlib.Core.Path.{◌≡◌, refl}
use mathlib.Core.Bool.{true}
use Prim.Native.Nat.{ℕ, ◌≤◌}
use borrow.Author.Tests.{leb-true, le-leb, eqb-true, eq-eqb}
use Rattle.trie.specs.SlotCounts.{slot_count}
use Rattle.book.specs.Returns.{most_records, allowed}
use Rattle.built.specs.Calls.{allowed_sizes}
use Rattle.built.proofs.Keys.{both}

pub record Limits (root_children root_words keys children words records logarithms : ℕ) : Type 0 where
  pub roots_least : 1 ≤ root_children
  pub roots_most : root_children ≤ 65536
  pub root_words_lem : root_words ≡ root_children
  pub slots : slot_count keys ≡ true
  pub children_long : children ≡ keys
  pub words_long : words ≡ keys
  pub records_least : 1 ≤ records
  pub records_most : records ≤ most_records
  pub logarithms_long : logarithms ≡ records

module _ (root_children root_words keys children words records logarithms : ℕ) where
  pub limits_of : allowed root_children root_words keys children words records logarithms ≡ true
      → Limits root_children root_words keys children words records logarithms
  unfolding allowed
  limits_of e =
      let t8 = both _ _ e in
      let t7 = both _ _ t8.0 in
      let t6 = both _ _ t7.0 in
      let t5 = both _ _ t6.0 in
      let t4 = both _ _ t5.0 in
      let t3 = both _ _ t4.0 in
      let t2 = both _ _ t3.0 in
      let t1 = both _ _ t2.0 in
      record {
        roots_least = leb-true _ _ t1.0;
        roots_most = leb-true _ _ t1.1;
        root_words_lem = eqb-true _ _ t2.1;
        slots = t3.1;
        children_long = eqb-true _ _ t4.1;
        words_long = eqb-true _ _ t5.1;
        records_least = leb-true _ _ t6.1;
        records_most = leb-true _ _ t7.1;
        logarithms_long = eqb-true _ _ t8.1;
      }

  pub allowed_of : Limits root_children root_words keys children words records logarithms
      → allowed root_children root_words keys children words records logarithms ≡ true
  unfolding allowed
  allowed_of l =
      rw (
        le-leb _ _ l.roots_least,
        le-leb _ _ l.roots_most,
        eq-eqb _ _ l.root_words_lem,
        l.slots,
        eq-eqb _ _ l.children_long,
        eq-eqb _ _ l.words_long,
        le-leb _ _ l.records_least,
        le-leb _ _ l.records_most,
        eq-eqb _ _ l.logarithms_long,
      )

  -- then a book of these lengths starts from allowed sizes
  pub as_sizes : Limits root_children root_words keys children words records logarithms
      → Limits root_children root_children keys keys keys records records
  as_sizes l = record {
    roots_least = l.roots_least;
    roots_most = l.roots_most;
    root_words_lem = refl;
    slots = l.slots;
    children_long = refl;
    words_long = refl;
    records_least = l.records_least;
    records_most = l.records_most;
    logarithms_long = refl;
  }

pub lengths_allowed : (root_children root_words keys children words records logarithms : ℕ)
    → allowed root_children root_words keys children words records logarithms ≡ true → allowed_sizes root_children keys records
lengths_allowed root_children root_words keys children words records logarithms e =
    allowed_of root_children root_children keys keys keys records records
    (as_sizes _ _ _ _ _ _ _ (limits_of root_children root_words keys children words records logarithms e))
