-- The tests of a word, one after the other: each law says what `tested_word` is where the tests before it have passed. And what is known of a word that
-- has passed them all.
-- Assumes nothing.
use mathlib.Core.Path.{◌≡◌, refl, sym, ap, ◌∙◌}
use mathlib.Core.Bool.{Bool, true, false, cond}
use mathlib.Core.List.{List, [], ◌∷◌}
use mathlib.Core.Option.{Option, none, some, IsSome}
use Prim.Native.Nat.{ℕ, ◌<◌, ◌≤◌}
use native.Mathlib.Omega.{arith}
use borrow.Author.Tests.{le-leb, lt-leb, leb-true}
use lib.Dec.{leb}
use lib.ListN.{length}
use Rattle.std.specs.Prelude.{Result, Ok, Err}
use Rattle.utf8.specs.declared.Malformed as Utf8
use Rattle.utf8.specs.Text.{chars_of, count_of}
use Rattle.book.specs.declared.Refusal.{Refusal}
use Rattle.book.specs.declared.Refusal.TheVariants.{BadAreas, TooLong, Malformed}
use Rattle.book.specs.Returns.{longest_text}
use Rattle.lookup.specs.Tests.{tested_chars, tested_word}

-- ---- the tests

module _ (sizes : Bool) (word : List ℕ) {r : Bool} (areas : r ≡ sizes) where
  pub areas_refused : r ≡ false → Err BadAreas ≡ tested_word sizes word
  unfolding tested_word
  areas_refused n = rw (sym areas, n)

  module _ (sized : r ≡ true) where
    pub too_long : longest_text < length word → Err TooLong ≡ tested_word sizes word
    unfolding tested_word
    too_long l = rw (sym areas, sized, lt-leb (length word) longest_text l)

    module _ (short : length word ≤ longest_text) where
      by_chars : tested_word sizes word ≡ tested_chars (chars_of word)
      unfolding tested_word
      by_chars = rw (sym areas, sized, le-leb (length word) longest_text short)

      module _ {count : Result ℕ Utf8.Malformed} (counted : count ≡ count_of (chars_of word)) where
        pub malformed : count ≡ Err (record {}) → Err Malformed ≡ tested_word sizes word
        malformed e = sym (by_chars ∙ go (chars_of word) (sym counted ∙ e))
          where
            go : (o : Option (List ℕ)) → count_of o ≡ Err (record {}) → tested_chars o ≡ Err Malformed
            go none e = refl
            go (some cs) e = let z : ◌≡◌ {A = ℕ} 0 1 = cc in absurd (omega arith)

        pub counts : {n : ℕ} → count ≡ Ok n → Ok n ≡ tested_word sizes word
        counts {n} e = sym (by_chars ∙ go (chars_of word) (sym counted ∙ e))
          where
            go : (o : Option (List ℕ)) → count_of o ≡ Ok n → tested_chars o ≡ Ok n
            go none e = let z : ◌≡◌ {A = ℕ} 0 1 = cc in absurd (omega arith)
            go (some cs) e = let y : length cs ≡ n = cc in ap Ok y

-- ---- a word that has passed them

pub record Passed (sizes : Bool) (word : List ℕ) : Type 0 where
  pub sized : sizes ≡ true
  pub short : length word ≤ longest_text
  pub first : ℕ
  pub rest : List ℕ
  pub read : chars_of word ≡ some (first ∷ rest)

pub passed : {sizes : Bool} {word : List ℕ} {t : Result ℕ Refusal} {n : ℕ} → t ≡ tested_word sizes word → t ≡ Ok n → (n ≡ 0 → ⊥) → Passed sizes word
unfolding tested_word
passed {sizes} {word} {t} {n} tested e some_chars = by_sizes sizes refl (sym e ∙ tested)
  where
    by_read : sizes ≡ true → length word ≤ longest_text → (o : Option (List ℕ)) → chars_of word ≡ o → Ok n ≡ tested_chars o → Passed sizes word
    by_read s l none read e = let z : ◌≡◌ {A = ℕ} 0 1 = cc in absurd (omega arith)
    by_read s l (some []) read e = let z : n ≡ 0 = cc in absurd (some_chars z)
    by_read s l (some (c ∷ cs)) read e = record { sized = s; short = l; first = c; rest = cs; read = read }

    by_length : sizes ≡ true → (t : Bool) → leb (length word) longest_text ≡ t → Ok n ≡ cond t (tested_chars (chars_of word)) (Err TooLong) → Passed sizes word
    by_length s true l e = by_read s (leb-true (length word) longest_text l) (chars_of word) refl e
    by_length s false l e = let z : ◌≡◌ {A = ℕ} 0 1 = cc in absurd (omega arith)

    by_sizes : (t : Bool) → sizes ≡ t → Ok n ≡ cond t (cond (leb (length word) longest_text) (tested_chars (chars_of word)) (Err TooLong))
        (Err BadAreas) → Passed sizes word
    by_sizes true s e = by_length s (leb (length word) longest_text) refl e
    by_sizes false s e = let z : ◌≡◌ {A = ℕ} 0 1 = cc in absurd (omega arith)

pub well_formed : {sizes : Bool} {word : List ℕ} → Passed sizes word → IsSome (chars_of word)
well_formed p = rw p.read tt
