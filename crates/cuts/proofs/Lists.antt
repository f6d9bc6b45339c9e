-- Lists by a test, and a block's characters between two positions: one character taken off the front, or added at the end.
-- Assumes nothing.
use Prim.Native.Nat.{ℕ, zero, suc, ◌+◌, ◌-◌, ◌≤◌, ◌<◌}
use mathlib.Core.Bool.{Bool, true, false, cond, ◌||◌, or-false}
use mathlib.Core.List.{List, [], ◌∷◌, ◌++◌}
use mathlib.Core.Path.{◌≡◌, refl, sym, ap, ◌∙◌}
use native.Mathlib.Numerals.{add-one}
use native.Mathlib.Omega.{arith}
use lib.ListN.{length, get_or, take, length-take}
use lib.Seq.{drop-cons, take-add, get_or-take}
use Rattle.cuts.specs.Tokens.{span, any_of, those, chars_between}

-- ---- those of which a test holds

-- the first of them, then the others
pub those_first : {A : Type 0} (test : A → Bool) (x : A) (xs : List A) → those test (x ∷ xs) ≡ those test (x ∷ []) ++ those test xs
those_first {A} test x xs = by (test x)
  where
    by : (t : Bool) → ◌≡◌ {A = List A} (cond t (x ∷ those test xs) (those test xs)) (cond t (x ∷ []) [] ++ those test xs)
    by true = refl
    by false = refl

module _ {A : Type 0} (test : A → Bool) (x : A) where
  pub those_kept : test x ≡ true → those test (x ∷ []) ≡ x ∷ []
  those_kept e = rw e

  pub those_left : test x ≡ false → those test (x ∷ []) ≡ []
  those_left e = rw e

-- one more at the end
pub any_more : {A : Type 0} (test : A → Bool) (xs : List A) (x : A) → any_of test (xs ++ (x ∷ [])) ≡ any_of test xs || test x
any_more test [] x = or-false (test x)
any_more test (y ∷ ys) x = rw (any_more test ys x) (by (test y))
  where
    by : (t : Bool) → t || (any_of test ys || test x) ≡ (t || any_of test ys) || test x
    by true = refl
    by false = refl

-- ---- the characters between two positions

module _ (cs : List ℕ) where
  pub between_none : (a : ℕ) → chars_between cs (span a a) ≡ []
  between_none a = let none : a - a ≡ 0 = omega arith in rw none

  pub between_next : (a b : ℕ) → a < b → b ≤ length cs → chars_between cs (span a b) ≡ get_or cs a 0 ∷ chars_between cs (span (a + 1) b)
  between_next a b h long =
      let more : b - a ≡ suc (b - (a + 1)) = omega arith in
      rw (more, drop-cons cs a 0 (omega arith), add-one a)

  pub between_more : (a b : ℕ) → a ≤ b → b < length cs → chars_between cs (span a (b + 1)) ≡ chars_between cs (span a b) ++ (get_or cs b 0 ∷ [])
  between_more a b h long = by (b - a) a (omega arith)
    where
      by : (k a : ℕ) → a + k ≡ b → chars_between cs (span a (b + 1)) ≡ chars_between cs (span a b) ++ (get_or cs b 0 ∷ [])
      by zero a e =
          let same : a ≡ b = omega arith in
          rw same (between_next b (b + 1) (omega arith) (omega arith) ∙ rw (between_none b, between_none (b + 1)))
      by (suc k) a e =
          between_next a (b + 1) (omega arith) (omega arith)
          ∙ ap (λ (l : List ℕ). get_or cs a 0 ∷ l) (by k (a + 1) (omega arith))
          ∙ ap (λ (l : List ℕ). l ++ (get_or cs b 0 ∷ [])) (sym (between_next a b (omega arith) (omega arith)))

  -- those before the first position, and then those between, are those before the second
  pub before_and_between : (a b : ℕ) → a ≤ b → take b cs ≡ take a cs ++ chars_between cs (span a b)
  before_and_between a b h = let all : b ≡ a + (b - a) = omega arith in ap (λ (k : ℕ). take k cs) all ∙ take-add a (b - a) cs

-- the first n of a slice's characters have the slice's characters between two of their positions
module _ (chars : List ℕ) (n : ℕ) where
  pub block_long : (b : ℕ) → b ≤ n → b ≤ length chars → b ≤ length (take n chars)
  block_long b inside long = omega (arith, length-take n chars)

  pub between_in_block : (a b : ℕ) → b ≤ n → b ≤ length chars → chars_between (take n chars) (span a b) ≡ chars_between chars (span a b)
  between_in_block a b inside long = by (b - a) a (omega arith)
    where
      by : (k a : ℕ) → b - a ≡ k → chars_between (take n chars) (span a b) ≡ chars_between chars (span a b)
      by zero a e = rw e
      by (suc k) a e =
          between_next (take n chars) a b (omega arith) (block_long b inside long)
          ∙ rw (get_or-take n chars a 0 (omega arith), by k (a + 1) (omega arith))
          (sym (between_next chars a b (omega arith) long))
