-- The fields of a text with one field only, once a space and 0 stand after that field: the field, and 0.
-- The text is white space, the field, and white space again; the space that is added ends the field, and the white space after it, or the text's end,
-- ends the 0.
-- Assumes nothing.
use mathlib.Core.Path.{◌≡◌, refl, sym, ap, ◌∙◌}
use mathlib.Core.Bool.{Bool, true, false}
use mathlib.Core.List.{List, [], ◌∷◌, ◌++◌}
use Prim.Native.Nat.{ℕ}
use native.Mathlib.Omega.{arith}
use Rattle.classes.specs.Ranges.{in_ranges}
use Rattle.classes.specs.WhiteSpace.{white_space}
use Rattle.lines.specs.Lines.{onto, take_while, drop_while, pieces, fields_of}
use Rattle.lines.proofs.Fields.{non_space, take_drop_while, fields_space, fields_drop, fields_first, begins}
use Rattle.sheets.specs.Filled.{zero_digit, space_and_zero}

space : white_space 0x20 ≡ true
unfolding white_space in_ranges
space = refl

zero_is_none : white_space zero_digit ≡ false
unfolding white_space in_ranges
zero_is_none = refl

-- ---- what stands after the first characters that pass a test begins with one that does not

module _ (p : ℕ → Bool) where
  none_first : (xs : List ℕ) → take_while p (drop_while p xs) ≡ []
  none_first [] = refl
  none_first (x ∷ xs) = go (p x) refl (none_first xs)
    where
      go : (t : Bool) → p x ≡ t → take_while p (drop_while p xs) ≡ [] → take_while p (drop_while p (x ∷ xs)) ≡ []
      go true e ih = rw e ih
      go false e ih = rw (e, e)

  dropped : (xs : List ℕ) → drop_while p (drop_while p xs) ≡ drop_while p xs
  dropped [] = refl
  dropped (x ∷ xs) = go (p x) refl (dropped xs)
    where
      go : (t : Bool) → p x ≡ t → drop_while p (drop_while p xs) ≡ drop_while p xs → drop_while p (drop_while p (x ∷ xs)) ≡ drop_while p (x ∷ xs)
      go true e ih = rw e ih
      go false e ih = rw (e, e)

-- ---- the parts of the new text

white_first : (cs ys : List ℕ) → fields_of (take_while white_space cs ++ ys) ≡ fields_of ys
white_first [] ys = refl
white_first (c ∷ cs) ys = go (white_space c) refl (white_first cs ys)
  where
    go : (t : Bool) → white_space c ≡ t → fields_of (take_while white_space cs ++ ys) ≡ fields_of ys → fields_of (take_while white_space (c ∷ cs) ++ ys) ≡ fields_of ys
    go true e ih = rw e (fields_space c (take_while white_space cs ++ ys) e ∙ ih)
    go false e ih = rw e

piece_first : (xs ys : List ℕ) → pieces (take_while non_space xs ++ (0x20 ∷ ys)) ≡ take_while non_space xs ∷ pieces ys
unfolding pieces
piece_first [] ys = rw (space, pieces)
piece_first (x ∷ xs) ys = go (white_space x) refl (piece_first xs ys)
  where
    go : (t : Bool) → white_space x ≡ t → pieces (take_while non_space xs ++ (0x20 ∷ ys)) ≡ take_while non_space xs ∷ pieces ys
        → pieces (take_while non_space (x ∷ xs) ++ (0x20 ∷ ys)) ≡ take_while non_space (x ∷ xs) ∷ pieces ys
    go true e ih = rw (e, space, pieces)
    go false e ih = rw (e, e, pieces) (ap (onto x) ih)

field_first : (d : ℕ) (ds ys : List ℕ) → white_space d ≡ false → fields_of (take_while non_space (d ∷ ds) ++ (0x20 ∷ ys)) ≡ take_while non_space (d ∷ ds) ∷ fields_of ys
unfolding fields_of
field_first d ds ys e = rw (piece_first (d ∷ ds) ys, e)

zero_last : (xs : List ℕ) → fields_of (drop_while non_space xs) ≡ [] → fields_of (zero_digit ∷ drop_while non_space xs) ≡ (zero_digit ∷ []) ∷ []
zero_last xs none_after =
    fields_first zero_digit (drop_while non_space xs) zero_is_none
    ∙ rw (zero_is_none, none_first non_space xs, dropped non_space xs, none_after)

-- ---- the whole

-- a text with one field only: what stands after it, and what the fields are once a space and 0 stand between
pub record OnlyField (cs word : List ℕ) : Type 0 where
  pub rest : List ℕ
  pub whole : cs ≡ take_while white_space cs ++ (word ++ rest)
  pub filled : fields_of (take_while white_space cs ++ (word ++ (space_and_zero ++ rest))) ≡ word ∷ (zero_digit ∷ []) ∷ []

module _ (cs word : List ℕ) (only : fields_of cs ≡ word ∷ []) where
  by_body : (body : List ℕ) → drop_while white_space cs ≡ body → OnlyField cs word
  unfolding fields_of pieces
  by_body [] e =
      let none : fields_of cs ≡ [] = sym (fields_drop cs) ∙ ap fields_of e in
      let z : ◌≡◌ {A = ℕ} 0 1 = cc in absurd (omega arith)
  by_body (d ∷ ds) e =
      let printed = begins cs ds d e in
      let parts : fields_of cs ≡ take_while non_space (d ∷ ds) ∷ fields_of (drop_while non_space (d ∷ ds)) = sym (fields_drop cs) ∙ ap fields_of e
      ∙ fields_first d ds printed in
      let word_is : word ≡ take_while non_space (d ∷ ds) = cc in
      let none_after : fields_of (drop_while non_space (d ∷ ds)) ≡ [] = cc in
      record {
        rest = drop_while non_space (d ∷ ds);
        whole =
            sym (take_drop_while white_space cs)
            ∙ ap (λ (body : List ℕ). take_while white_space cs ++ body) (e ∙ sym (take_drop_while non_space (d ∷ ds))
            ∙ ap (λ (w : List ℕ). w ++ drop_while non_space (d ∷ ds)) (sym word_is));
        filled =
            white_first cs (word ++ (space_and_zero ++ drop_while non_space (d ∷ ds)))
            ∙ ap (λ (w : List ℕ). fields_of (w ++ (space_and_zero ++ drop_while non_space (d ∷ ds)))) word_is
            ∙ field_first d ds (zero_digit ∷ drop_while non_space (d ∷ ds)) printed
            ∙ rw (← word_is, zero_last (d ∷ ds) none_after);
      }

  pub only_field : OnlyField cs word
  only_field = by_body (drop_while white_space cs) refl
