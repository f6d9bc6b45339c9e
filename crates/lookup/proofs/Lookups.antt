-- A lookup by the answer of its tests: a refusal and the empty word are answered at once, and a word that has passed is looked up.
-- Assumes nothing.
use Rattle.std.specs.Prelude.{None, Result, Ok, Err}
use mathlib.Core.Path.{◌≡◌, refl, sym, ap, ◌∙◌}
use mathlib.Core.Bool.{Bool, true, false, cond}
use mathlib.Core.List.{List, [], ◌∷◌}
use mathlib.Core.Option.{Option, none, some}
use Prim.Native.Nat.{ℕ, zero, suc, ◌<◌}
use native.Mathlib.Omega.{arith}
use lib.Dec.{leb}
use lib.Ieee.{Float}
use lib.ListN.{length}
use Rattle.std.specs.Prelude.{Ok, Some}
use Rattle.utf8.specs.Text.{chars_of}
use Rattle.trie.specs.Trie.{CharTrie, trie_of, WordNumber}
use Rattle.walk.specs.Walk.{got_of}
use Rattle.book.specs.declared.Head.{Head}
use Rattle.book.specs.declared.Refusal.{Refusal}
use Rattle.book.specs.declared.Refusal.TheVariants.{BadAreas, TooLong}
use Rattle.book.specs.Returns.{Book, sized, longest_text, head_damaged, damaged_head, found_by, lookup_chars, lookup_of, Found}
use Rattle.book.specs.Areas.{areas_allowed, book_of}
use Rattle.book.proofs.Areas.{sized_lent}
use Rattle.book.proofs.Held.{held_used}
use Rattle.book.proofs.Sizes.{head_within}
use Rattle.lookup.specs.Tests.{tested_chars, tested_word}

-- what is answered, by the tests' answer
abbrev lookup_by : Book → List ℕ → Result ℕ Refusal → Found
lookup_by b word (Err r) = Err r
lookup_by b word (Ok zero) = Ok None
lookup_by b word (Ok (suc n)) = cond (damaged_head b) (Err Refusal.Damaged) (found_by b (got_of b.head.records b.trie (chars_of word)))

module _ (b : Book) (word : List ℕ) where
  by_chars : (o : Option (List ℕ)) → chars_of word ≡ o → lookup_by b word (tested_chars o) ≡ lookup_chars b o
  unfolding got_of
  by_chars none e = refl
  by_chars (some []) e = refl
  by_chars (some (c ∷ cs)) e = rw e

  by_length : (t : Bool) → lookup_by b word (cond t (tested_chars (chars_of word)) (Err TooLong)) ≡ cond t (lookup_chars b (chars_of word)) (Err TooLong)
  by_length true = by_chars (chars_of word) refl
  by_length false = refl

  by_sizes : (t : Bool)
      → lookup_by b word (cond t (cond (leb (length word) longest_text) (tested_chars (chars_of word)) (Err TooLong)) (Err BadAreas))
      ≡ cond t (cond (leb (length word) longest_text) (lookup_chars b (chars_of word)) (Err TooLong)) (Err BadAreas)
  by_sizes true = by_length (leb (length word) longest_text)
  by_sizes false = refl

  module _ {t : Result ℕ Refusal} (tested : t ≡ tested_word (sized b) word) where
    by_tests : lookup_by b word t ≡ lookup_of b word
    unfolding tested_word lookup_of
    by_tests = ap (lookup_by b word) tested ∙ by_sizes (sized b)

    pub refused : {r : Refusal} → t ≡ Err r → Err r ≡ lookup_of b word
    refused e = rw e at by_tests

    module _ {n : ℕ} (e : t ≡ Ok n) where
      pub empty : n ≡ 0 → Ok None ≡ lookup_of b word
      empty z = rw (e, z) at by_tests

      by_word : (n ≡ 0 → ⊥) → cond (damaged_head b) (Err Refusal.Damaged) (found_by b (got_of b.head.records b.trie (chars_of word))) ≡ lookup_of b word
      by_word some_chars = go n refl
        where
          go : (m : ℕ) → n ≡ m → cond (damaged_head b) (Err Refusal.Damaged) (found_by b (got_of b.head.records b.trie (chars_of word))) ≡ lookup_of b word
          go zero z = absurd (some_chars z)
          go (suc m) z = rw (e, z) at by_tests

      module _ (some_chars : n ≡ 0 → ⊥) {d : Bool} (head : d ≡ damaged_head b) where
        pub head_damaged_lem : d ≡ true → Err Refusal.Damaged ≡ lookup_of b word
        head_damaged_lem h = rw (sym head, h) at (by_word some_chars)

        pub looked_up_lem : d ≡ false → {g got : WordNumber} → got ≡ got_of b.head.records b.trie (chars_of word) → got ≡ g
            → found_by b g ≡ lookup_of b word
        looked_up_lem h q f = rw (sym f, q) (rw (sym head, h) at (by_word some_chars))

-- the record that is found is one that is used, and so one of the book's
pub record_inside : (head : Head) (records slots : ℕ) {d : Bool} → d ≡ head_damaged head records slots → d ≡ false
    → (trie : CharTrie) (o : Option (List ℕ)) {got : WordNumber} {n : ℕ} → got ≡ got_of head.records trie o → got ≡ Ok (Some n) → n < records
record_inside head records slots tested sound trie o walked found =
    let used = held_used head.records _ trie o (sym walked ∙ found) in
    let within = head_within head records slots (sym tested ∙ sound) in
    omega (arith, used, within)

-- the tests of the areas' lengths are those of the book that is lent
pub tested_lent : (head : Head) (roots slots records : List ℕ) (logarithms : List Float) (word : List ℕ) {t : Result ℕ Refusal}
    → t ≡ tested_word (areas_allowed (length roots) (length slots) (length records) (length logarithms)) word
    → t ≡ tested_word (sized (book_of head (trie_of roots slots) records logarithms)) word
tested_lent head roots slots records logarithms word tested =
    tested ∙ ap (λ (areas : Bool). tested_word areas word) (sized_lent head roots slots records logarithms)
