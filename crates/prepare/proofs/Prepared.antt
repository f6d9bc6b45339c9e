-- What `prepare` answers, by the test of the sizes: the areas as they were, or each filled with zeros. Zeros are no children, no words and no keys to the
-- views, and the areas of one part are equally long, so each fill is the empty book's part.
-- Assumes nothing.
use Rattle.std.specs.Prelude.{Ok, Err}
use mathlib.Core.Path.{◌≡◌, sym, ◌∙◌}
use mathlib.Core.Bool.{Bool, true, false}
use mathlib.Core.List.{List}
use Prim.Native.Nat.{ℕ, ◌+◌, ◌/◌}
use native.Mathlib.Omega.{arith}
use lib.IntN.{pos}
use lib.Ieee.{Float}
use lib.ListN.{length, replicate}
use Rattle.score.specs.Scores.{whole, float_of}
use Rattle.trie.specs.Trie.{trie_of}
use Rattle.trie.proofs.Packed.{length_children, keys_whole, no_children, no_words, no_keys, no_links}
use Rattle.book.specs.declared.Refusal.TheVariants.{BadAreas}
use Rattle.book.specs.Areas.{areas_allowed, book_of}
use Rattle.book.specs.Returns.{sized, empty_head, empty_book, prepare_answer, prepare_of}
use Rattle.book.proofs.Areas.{sized_lent, slots_whole, logarithms_same}

module _ (roots slots records : List ℕ) (l : List Float) (r : Bool)
    (e : r ≡ areas_allowed (length roots) (length slots) (length records) (length l)) where
  lengths : sized (book_of empty_head (trie_of roots slots) records l) ≡ r
  lengths = sym (sized_lent empty_head roots slots records l) ∙ sym e

  pub refused : r ≡ false → prepare_answer (Err BadAreas) (trie_of roots slots) records l ≡ prepare_of (trie_of roots slots) records l
  unfolding prepare_of
  refused h = rw (lengths, h)

  pub ready : (roots₁ slots₁ records₁ : List ℕ) (l₁ : List Float) → r ≡ true
      → roots₁ ≡ replicate (length roots) 0
      → slots₁ ≡ replicate (length slots) 0
      → records₁ ≡ replicate (length records) 0
      → l₁ ≡ replicate (length l) (float_of (whole (pos 0)))
      → prepare_answer (Ok empty_head) (trie_of roots₁ slots₁) records₁ l₁ ≡ prepare_of (trie_of roots slots) records l
  unfolding prepare_of empty_book
  ready roots₁ slots₁ records₁ l₁ h er es ec el =
      let areas = sym e ∙ h in
      let even = slots_whole _ _ _ _ areas in
      let half : (length slots + 1) / 2 ≡ length slots / 2 = omega arith in
      rw (
        lengths,
        h,
        er,
        es,
        ec,
        el,
        no_children,
        no_words,
        no_keys,
        no_links,
        no_children,
        no_words,
        length_children roots,
        keys_whole slots even,
        half,
        logarithms_same _ _ _ _ areas,
      )
