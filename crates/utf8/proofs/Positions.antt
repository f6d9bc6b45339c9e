-- A text from a position on, by the character that is read there: what a loop over a text needs of each step.
-- Assumes nothing.
use mathlib.Core.Path.{◌≡◌, refl, sym, ap, ◌∙◌}
use mathlib.Core.List.{List, [], ◌∷◌, ◌++◌, append_assoc}
use mathlib.Core.Logic.{⊎_elim}
use mathlib.Core.Option.{Option, none, some, IsSome}
use Prim.Native.Nat.{ℕ, ◌+◌, ◌-◌, ◌^◌, ◌≤◌, ◌<◌}
use native.Mathlib.Nat.{add-zero}
use native.Mathlib.Omega.{arith}
use lib.ListN.{length, take, drop, length-append, length-drop, drop_of_length-le}
use lib.Seq.{drop-drop, take-append_seam, drop-append_seam}
use Rattle.std.specs.Prelude.{Result, Ok, Err}
use Rattle.utf8.specs.declared.Malformed.{Malformed}
use Rattle.utf8.specs.Characters.{char, malformed, ended, read_from, character_at}
use Rattle.utf8.specs.Text.{before, chars_of, chars_from, count_of}
use Rattle.utf8.specs.Encoding.{Scalars, encode, encode_text, byte_length}
use Rattle.utf8.specs.Utf16.{units_of, unit_length}
use Rattle.utf8.proofs.Utf16.{one_unit, two_units, units_encoded}
use Rattle.utf8.proofs.Encodings.{below, encode_4, reads_only_encodings}
use Rattle.utf8.proofs.Texts.{encode_short, width, chars_char, chars_malformed, chars_end, end_nil, texts_of_encodings, texts_only_of_encodings}

-- a character has no more units than bytes
no_more_units_of : (c : ℕ) → units_of c ≤ length (encode c)
no_more_units_of c =
    ⊎_elim
    (λ low. let is_one : units_of c ≡ 1 = one_unit c low in omega (arith, encode_short c))
    (λ high. let is_two : units_of c ≡ 2 = two_units c high in let four : length (encode c) ≡ 4 = ap length (encode_4 c high) in omega arith)
    (below c 0x10000)

module _ (s : List ℕ) (at : ℕ) where
  pub from_char : (c w u : ℕ) → character_at s at ≡ char c w u → chars_from s at ≡ before c (chars_from s (at + w))
  unfolding character_at chars_from
  from_char c w u e = chars_char (drop at s) c w u e ∙ ap (λ (x : List ℕ). before c (chars_of x)) (drop-drop w at s)

  pub from_malformed : character_at s at ≡ malformed → chars_from s at ≡ none
  unfolding character_at chars_from
  from_malformed e = chars_malformed (drop at s) e

  pub from_end : length s ≤ at → chars_from s at ≡ some []
  unfolding chars_from read_from
  from_end h = rw (drop_of_length-le s h) (chars_end [] refl)

  -- a character has one to four bytes, within the text
  pub inside : (c w u : ℕ) → character_at s at ≡ char c w u → (1 ≤ w) × (w ≤ 4) × (at + w ≤ length s)
  unfolding character_at
  inside c w u e =
      let p = width (drop at s) c w u e in
      let l : length (drop at s) ≡ length s - at = length-drop at s in
      (p.0.0, p.0.1, omega arith)

  -- as many as its encoding
  pub width_of : (c w u : ℕ) → character_at s at ≡ char c w u → length (encode c) ≡ w
  unfolding character_at
  width_of c w u e = (reads_only_encodings (drop at s) c w u e).1

  -- and as many units as its encoding in UTF-16
  pub units_of_lem : (c w u : ℕ) → character_at s at ≡ char c w u → units_of c ≡ u
  unfolding character_at
  units_of_lem c w u e = units_encoded c ∙ (reads_only_encodings (drop at s) c w u e).3

  -- which are no more than its bytes
  pub units_within : (c w u : ℕ) → character_at s at ≡ char c w u → u ≤ w
  units_within c w u e = omega (arith, no_more_units_of c, units_of_lem c w u e, width_of c w u e)

  -- a scalar value has 21 bits
  pub value_below : (c w u : ℕ) → character_at s at ≡ char c w u → c < 2 ^ 21
  unfolding character_at
  value_below c w u e = ⊎_elim (λ low. omega arith) (λ high. omega arith) (reads_only_encodings (drop at s) c w u e).0

  -- the end is not met within the text
  pub not_within : character_at s at ≡ ended → length s ≤ at
  unfolding character_at
  not_within e =
      let l : length (drop at s) ≡ length s - at = length-drop at s in
      let n : length (drop at s) ≡ 0 = ap length (end_nil (drop at s) e) in
      omega arith

  -- where the text is well formed from here on, it is after the character that is read here
  pub still_chars : IsSome (chars_from s at) → (c w u : ℕ) → character_at s at ≡ char c w u → IsSome (chars_from s (at + w))
  still_chars some_chars c w u e = later (chars_from s (at + w)) (rw (from_char c w u e) at some_chars)
    where
      later : (rest : Option (List ℕ)) → IsSome (before c rest) → IsSome rest
      later none some_there = absurd some_there
      later (some cs) some_there = tt

pub from_start : (s : List ℕ) → chars_from s 0 ≡ chars_of s
unfolding chars_from
from_start s = refl

-- ---- a text in two parts

append_text : (xs ys : List ℕ) → encode_text (xs ++ ys) ≡ encode_text xs ++ encode_text ys
append_text [] ys = refl
append_text (x ∷ xs) ys = ap (λ (l : List ℕ). encode x ++ l) (append_text xs ys) ∙ sym (append_assoc (encode x) (encode_text xs) (encode_text ys))

append_scalars : (xs ys : List ℕ) → Scalars (xs ++ ys) → Scalars xs × Scalars ys
append_scalars [] ys h = (tt, h)
append_scalars (x ∷ xs) ys h = let p = append_scalars xs ys h.1 in ((h.0, p.0), p.1)

scalars_append : (xs ys : List ℕ) → Scalars xs → Scalars ys → Scalars (xs ++ ys)
scalars_append [] ys first second = second
scalars_append (x ∷ xs) ys first second = (first.0, scalars_append xs ys first.1 second)

-- the characters of two texts, one after the other
pub chars_append : (bs ds xs ys : List ℕ) → chars_of bs ≡ some xs → chars_of ds ≡ some ys → chars_of (bs ++ ds) ≡ some (xs ++ ys)
chars_append bs ds xs ys e f =
    let first = texts_only_of_encodings bs xs e in
    let second = texts_only_of_encodings ds ys f in
    let joined : bs ++ ds ≡ encode_text (xs ++ ys) = sym (append_text xs ys ∙ rw (first.1, second.1)) in
    ap chars_of joined ∙ texts_of_encodings (xs ++ ys) (scalars_append xs ys first.0 second.0)

pub byte_length_cons : (c : ℕ) (cs : List ℕ) → byte_length (c ∷ cs) ≡ length (encode c) + byte_length cs
unfolding byte_length
byte_length_cons c cs = length-append (encode c) (encode_text cs)

pub byte_length_append : (xs ys : List ℕ) → byte_length (xs ++ ys) ≡ byte_length xs + byte_length ys
unfolding byte_length
byte_length_append xs ys = ap length (append_text xs ys) ∙ length-append (encode_text xs) (encode_text ys)

-- several characters have no more units than bytes
pub no_more_units : (cs : List ℕ) → unit_length cs ≤ byte_length cs
unfolding unit_length byte_length
no_more_units [] = omega arith
no_more_units (c ∷ cs) = omega (arith, no_more_units_of c, no_more_units cs, byte_length_cons c cs)

-- the characters after a first part stand after its bytes, and the first part's are in those bytes
module _ (s : List ℕ) (at : ℕ) (xs ys : List ℕ) (e : chars_from s at ≡ some (xs ++ ys)) where
  parts : Scalars (xs ++ ys) × (encode_text (xs ++ ys) ≡ drop at s)
  unfolding chars_from
  parts = texts_only_of_encodings (drop at s) (xs ++ ys) e

  bytes : encode_text xs ++ encode_text ys ≡ drop at s
  bytes = sym (append_text xs ys) ∙ parts.1

  pub from_second : chars_from s (at + byte_length xs) ≡ some ys
  unfolding chars_from byte_length
  from_second =
      ap chars_of (sym (drop-drop (length (encode_text xs)) at s) ∙ ap (drop (length (encode_text xs))) (sym bytes)
      ∙ drop-append_seam (encode_text xs) (encode_text ys))
      ∙ texts_of_encodings ys (append_scalars xs ys parts.0).1

  pub first_bytes : chars_of (take (byte_length xs) (drop at s)) ≡ some xs
  unfolding byte_length
  first_bytes =
      ap chars_of (ap (take (length (encode_text xs))) (sym bytes) ∙ take-append_seam (encode_text xs) (encode_text ys))
      ∙ texts_of_encodings xs (append_scalars xs ys parts.0).0

  pub within_text : at ≤ length s → at + byte_length xs + byte_length ys ≤ length s
  unfolding byte_length
  within_text h =
      let l : length (encode_text xs) + length (encode_text ys) ≡ length s - at = sym (length-append (encode_text xs) (encode_text ys)) ∙ ap length bytes
      ∙ length-drop at s in
      omega arith

-- nothing is left only at the end
pub none_left : (s : List ℕ) (at : ℕ) → chars_from s at ≡ some [] → length s ≤ at
unfolding chars_from
none_left s at e =
    let n : 0 ≡ length (drop at s) = ap length (texts_only_of_encodings (drop at s) [] e).1 in
    let l : length (drop at s) ≡ length s - at = length-drop at s in
    omega arith

-- ---- counting: n characters are passed, and the rest is still to be counted
abbrev pub count_on : ℕ → Option (List ℕ) → Result ℕ Malformed
count_on n none = Err (record {})
count_on n (some cs) = Ok (n + length cs)

count_none : (cs : Option (List ℕ)) → count_on 0 cs ≡ count_of cs
count_none none = refl
count_none (some cs) = ap Ok (omega arith)

pub count_start : (s : List ℕ) → count_on 0 (chars_from s 0) ≡ count_of (chars_of s)
count_start s = ap (count_on 0) (from_start s) ∙ count_none (chars_of s)

count_more : (n c : ℕ) (cs : Option (List ℕ)) → count_on (n + 1) cs ≡ count_on n (before c cs)
count_more n c none = refl
count_more n c (some cs) = ap Ok (omega arith)

module _ (s : List ℕ) (at n : ℕ) (r : Result ℕ Malformed) (same : count_on n (chars_from s at) ≡ r) where
  pub count_char : (c w u : ℕ) → character_at s at ≡ char c w u → count_on (n + 1) (chars_from s (at + w)) ≡ r
  count_char c w u e = count_more n c (chars_from s (at + w)) ∙ ap (count_on n) (sym (from_char s at c w u e)) ∙ same

  pub count_malformed : character_at s at ≡ malformed → Err (record {}) ≡ r
  count_malformed e = ap (count_on n) (sym (from_malformed s at e)) ∙ same

  pub count_end : length s ≤ at → Ok n ≡ r
  count_end h = ap Ok (sym (add-zero n)) ∙ ap (count_on n) (sym (from_end s at h)) ∙ same
