-- The words of texts and of lines: their characters are scalar values, so below 2^21, and a line's word is not empty.
-- A text that is not malformed has scalar values only (`utf8`). A line's fields are pieces of its characters, and those that are empty are left out.
-- Assumes nothing.
use mathlib.Core.Path.{◌≡◌, refl, subst}
use mathlib.Core.Bool.{Bool, true, false}
use mathlib.Core.Logic.{◌≢◌, inl, inr}
use mathlib.Core.List.{List, [], ◌∷◌}
use mathlib.Core.Option.{Option, none, some}
use Prim.Native.Nat.{ℕ, ◌^◌, ◌<◌}
use native.Mathlib.Omega.{arith}
use Rattle.classes.specs.WhiteSpace.{white_space}
use Rattle.utf8.specs.Encoding.{Scalar, Scalars}
use Rattle.utf8.specs.Text.{chars_of}
use Rattle.utf8.proofs.Texts.{texts_only_of_encodings}
use Rattle.std.specs.Prelude.{Result, Ok, Err}
use Rattle.lines.specs.declared.BadFrequency.{BadFrequency}
use Rattle.lines.specs.Lines.{onto, pieces, non_empty, fields_of, frequency_of, entry, with_frequency, meaning_of_fields, meaning_of_chars, meaning_of}
use Rattle.built.proofs.Steps.{Characters}

-- ---- scalar values

pub scalar_within : (c : ℕ) → Scalar c → c < 2 ^ 21
scalar_within c (inl h) = omega arith
scalar_within c (inr h) = omega (arith, h.1)

pub scalars_within : (cs : List ℕ) → Scalars cs → Characters cs
scalars_within [] s = tt
scalars_within (c ∷ cs) s = (scalar_within c s.0, scalars_within cs s.1)

pub text_characters : (text cs : List ℕ) → chars_of text ≡ some cs → Characters cs
text_characters text cs e = scalars_within cs (texts_only_of_encodings text cs e).0

-- ---- fields

abbrev EachCharacters : List (List ℕ) → Type 0
EachCharacters [] = Unit {0}
EachCharacters (l ∷ ls) = Characters l × EachCharacters ls

abbrev EachWord : List (List ℕ) → Type 0
EachWord [] = Unit {0}
EachWord (l ∷ ls) = (l ≢ []) × Characters l × EachWord ls

onto_characters : (c : ℕ) (ls : List (List ℕ)) → c < 2 ^ 21 → EachCharacters ls → EachCharacters (onto c ls)
onto_characters c [] h each = ((h, tt), tt)
onto_characters c (l ∷ ls) h each = ((h, each.0), each.1)

pieces_characters : (cs : List ℕ) → Characters cs → EachCharacters (pieces cs)
unfolding pieces
pieces_characters [] w = (tt, tt)
pieces_characters (c ∷ cs) w = go (white_space c) (pieces_characters cs w.1)
  where
    go : (t : Bool) → EachCharacters (pieces cs) → EachCharacters (elim t [ true ↦ [] ∷ pieces cs | false ↦ onto c (pieces cs) ])
    go true rest = (tt, rest)
    go false rest = onto_characters c (pieces cs) w.0 rest

non_empty_words : (ls : List (List ℕ)) → EachCharacters ls → EachWord (non_empty ls)
non_empty_words [] each = tt
non_empty_words ([] ∷ ls) each = non_empty_words ls each.1
non_empty_words ((x ∷ l) ∷ ls) each = ((λ e. let z : ◌≡◌ {A = ℕ} 0 1 = cc in omega arith), each.0, non_empty_words ls each.1)

fields_words : (cs : List ℕ) → Characters cs → EachWord (fields_of cs)
unfolding fields_of
fields_words cs w = non_empty_words (pieces cs) (pieces_characters cs w)

-- ---- a line's word

first_word : (fields : List (List ℕ)) → EachWord fields → (word : List ℕ) (frequency : ℕ) → meaning_of_fields fields ≡ entry word frequency
    → (word ≢ []) × Characters word
first_word [] each word frequency e = let z : ◌≡◌ {A = ℕ} 0 1 = cc in absurd (omega arith)
first_word (w ∷ []) each word frequency e = let same : w ≡ word = cc in subst (λ (v : List ℕ). (v ≢ []) × Characters v) same (each.0, each.1)
first_word (w ∷ f ∷ fs) each word frequency e = go (frequency_of f) e
  where
    go : (n : Result ℕ BadFrequency) → with_frequency w n ≡ entry word frequency → (word ≢ []) × Characters word
    go (Err y) e = let z : ◌≡◌ {A = ℕ} 0 1 = cc in absurd (omega arith)
    go (Ok n) e = let same : w ≡ word = cc in subst (λ (v : List ℕ). (v ≢ []) × Characters v) same (each.0, each.1)

pub line_word : (line word : List ℕ) (frequency : ℕ) → meaning_of line ≡ entry word frequency → (word ≢ []) × Characters word
unfolding meaning_of
line_word line word frequency e = go (chars_of line) refl e
  where
    go : (o : Option (List ℕ)) → chars_of line ≡ o → meaning_of_chars o ≡ entry word frequency → (word ≢ []) × Characters word
    go none eo e = let z : ◌≡◌ {A = ℕ} 0 1 = cc in absurd (omega arith)
    go (some cs) eo e = first_word (fields_of cs) (fields_words cs (text_characters line cs eo)) word frequency e
