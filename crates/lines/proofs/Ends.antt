-- Where a line ends, and how a text's lines go on from there.
-- A text that is not at its end has a line: the bytes before the next LF. The lines after it are those of what stands after that LF.
-- Assumes nothing.
use mathlib.Core.Path.{◌≡◌, refl, ap, ◌∙◌}
use mathlib.Core.Bool.{Bool, true, false, not}
use mathlib.Core.List.{List, [], ◌∷◌}
use Prim.Native.Nat.{ℕ, suc, ◌+◌, ◌-◌, ◌<◌, ◌≤◌}
use native.Mathlib.Nat.{add-zero}
use native.Mathlib.Numerals.{add-one}
use native.Mathlib.Omega.{arith}
use borrow.Author.Tests.{eq-eqb, ne_eqb}
use lib.Dec.{eqb}
use lib.ListN.{length, get_or, take, drop, length-take, length-drop, drop_of_length-le}
use lib.Seq.{drop-cons, drop-drop}
use Rattle.lines.specs.Lines.{onto, lines_of, take_while, line_end}

-- the test for a byte within a line
abbrev pub within : ℕ → Bool
within b = not (eqb b 0x0A)

module _ (s : List ℕ) (at : ℕ) where
  pub end_here : at < length s → get_or s at 0 ≡ 0x0A → line_end s at ≡ at
  unfolding line_end
  end_here h e = rw (drop-cons s at 0 h, eq-eqb (get_or s at 0) 0x0A e) (add-zero at)

  pub end_next : at < length s → (get_or s at 0 ≡ 0x0A → ⊥) → line_end s (at + 1) ≡ line_end s at
  unfolding line_end
  end_next h e = rw (drop-cons s at 0 h, ne_eqb (get_or s at 0) 0x0A e, add-one at) (omega arith)

  pub end_last : length s ≤ at → line_end s at ≡ at
  unfolding line_end
  end_last h = rw (drop_of_length-le s h) (add-zero at)

-- ---- a text's lines from a position on

pub line_ends : (b : ℕ) (bs : List ℕ) → eqb b 0x0A ≡ true → lines_of (b ∷ bs) ≡ [] ∷ lines_of bs
unfolding lines_of
line_ends b bs e = rw (e, lines_of)

pub line_goes_on : (b : ℕ) (bs : List ℕ) → eqb b 0x0A ≡ false → lines_of (b ∷ bs) ≡ onto b (lines_of bs)
unfolding lines_of
line_goes_on b bs e = rw (e, lines_of)

-- the first line is the bytes before the first LF, and the rest stands after it
abbrev FirstLine : List ℕ → Type 0
FirstLine bs = lines_of bs ≡ take_while within bs ∷ lines_of (drop (suc (length (take_while within bs))) bs)

lines_first : (b : ℕ) (bs : List ℕ) → FirstLine (b ∷ bs)
lines_first b [] = go (eqb b 0x0A) refl
  where
    go : (t : Bool) → eqb b 0x0A ≡ t → FirstLine (b ∷ [])
    go true e = line_ends b [] e ∙ rw e
    go false e = line_goes_on b [] e ∙ rw e (unfold lines_of in refl)
lines_first b (c ∷ bs) = go (eqb b 0x0A) refl (lines_first c bs)
  where
    go : (t : Bool) → eqb b 0x0A ≡ t → FirstLine (c ∷ bs) → FirstLine (b ∷ c ∷ bs)
    go true e ih = line_ends b (c ∷ bs) e ∙ rw e
    go false e ih = line_goes_on b (c ∷ bs) e ∙ ap (onto b) ih ∙ rw e

-- as many bytes as there are before the LF
pub taken : (p : ℕ → Bool) (xs : List ℕ) → take (length (take_while p xs)) xs ≡ take_while p xs
taken p [] = refl
taken p (x ∷ xs) = go (p x) refl (taken p xs)
  where
    go : (t : Bool) → p x ≡ t → take (length (take_while p xs)) xs ≡ take_while p xs → take (length (take_while p (x ∷ xs))) (x ∷ xs) ≡ take_while p (x ∷ xs)
    go true e ih = rw e (ap (λ (l : List ℕ). x ∷ l) ih)
    go false e ih = rw e

taken_length : (p : ℕ → Bool) (xs : List ℕ) → length (take_while p xs) ≤ length xs
taken_length p xs = let h : length (take (length (take_while p xs)) xs) ≡ length (take_while p xs) = ap length (taken p xs) in
    omega (arith, length-take (length (take_while p xs)) xs)

first_of : (xs : List ℕ) → 0 < length xs → lines_of xs ≡ take (length (take_while within xs)) xs ∷ lines_of (drop (length (take_while within xs) + 1) xs)
first_of [] h = absurd (omega arith)
first_of (x ∷ xs) h =
    rw (taken within (x ∷ xs), add-one (length (take_while within (x ∷ xs)))) (lines_first x xs)

module _ (s : List ℕ) (at : ℕ) (h : at ≤ length s) where
  left : length (drop at s) ≡ length s - at
  left = length-drop at s

  pub end_bounds : (at ≤ line_end s at) × (line_end s at ≤ length s)
  unfolding line_end
  end_bounds = let l = taken_length within (drop at s) in (omega arith, omega (arith, left))

  -- the line at a position, and the lines after it
  pub lines_at : at < length s → lines_of (drop at s) ≡ take (line_end s at - at) (drop at s) ∷ lines_of (drop (line_end s at + 1) s)
  unfolding line_end
  lines_at k =
      let n : at + length (take_while within (drop at s)) - at ≡ length (take_while within (drop at s)) = omega arith in
      let m : at + length (take_while within (drop at s)) + 1 ≡ at + (length (take_while within (drop at s)) + 1) = omega arith in
      rw (n, m) (first_of (drop at s) (omega (arith, left)) ∙ rw (drop-drop (length (take_while within (drop at s)) + 1) at s))

-- no lines are left at the end
pub lines_end : (s : List ℕ) (at : ℕ) → length s ≤ at → lines_of (drop at s) ≡ []
unfolding lines_of
lines_end s at h = rw (drop_of_length-le s h)
