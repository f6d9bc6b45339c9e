-- Doubles of whole numbers. Up to 2^53 a double is the whole number itself (the library's `round_whole`), so sums, differences and comparisons of
-- two of them are those of their signs and sizes (`Fractions`), and these are, sign by sign, the sum, the difference and the comparisons in ℤ.
-- A difference is a sum with the second sign turned. Its one special case is zero, whose turned sign makes -0: one lemma, `sum_signed`, takes
-- the second number as a sign and a size, and so serves the sum and the difference.
-- Assumes nothing.
use Prim.Native.Nat.{ℕ, zero, suc, ◌+◌, ◌-◌, ◌^◌, ◌≤◌, zero-le}
use mathlib.Core.Bool.{Bool, true, false, not, cond, and-true, and-false}
use mathlib.Core.Path.{◌≡◌, refl, ◌∙◌}
use native.Mathlib.Nat.{sub-zero, add-zero}
use native.Mathlib.Omega.{arith}
use lib.Dec.{ltb, eqb, leb-suc-suc, eqb-zero-suc, eqb-suc-zero, eqb-suc-suc}
use lib.IntN.{ℤ, pos, negsuc, neg_ℤ, nat_abs, sub_ℕ, ◌+ℤ◌, ◌-ℤ◌, +ℤ_idr}
use lib.Signed.{lt_z}
use lib.Ieee.{Format, binary64, round, sum, below, level, add, sub, lt, eq, of_int}
use lib.Ieee.Back.{round_whole}
use lib.Ieee.Exact.{HasValue}
use borrow.Author.Tests.{lt-ltb, le-ltb}
use Rattle.score.specs.Scores.{negative, same_whole}
use Rattle.score.proofs.Fractions.{add_at_whole, sub_at_whole, less_at_whole, equal_at_whole}
use Rattle.score.proofs.Tests.{by_leb}

-- a whole number up to 2^53 is its own double
pub whole_value : (z : ℤ) → nat_abs z ≤ 2 ^ 53 → HasValue (of_int binary64 z) (negative z) (nat_abs z) 1
unfolding of_int
whole_value (pos n) held = round_whole binary64 false n held
whole_value (negsuc n) held = round_whole binary64 true (suc n) held

-- ---- sums of signs and sizes, rounded

-- the whole number with this sign and this size
abbrev signed : Bool → ℕ → ℤ
signed false n = pos n
signed true n = neg_ℤ (pos n)

signed_whole : (z : ℤ) → signed (negative z) (nat_abs z) ≡ z
signed_whole (pos n) = refl
signed_whole (negsuc n) = refl

signed_turned : (z : ℤ) → signed (not (negative z)) (nat_abs z) ≡ neg_ℤ z
signed_turned (pos n) = refl
signed_turned (negsuc n) = refl

module _ (f : Format) where
  -- a - b
  sum_apart : (a b : ℕ) → sum f false a true b 1 ≡ of_int f (sub_ℕ a b)
  unfolding sum of_int
  sum_apart a b =
      by_leb (suc a) b
      (λ less. cond less (round f true (b - a) 1) (round f false (a - b) 1) ≡ of_int f (cond less (negsuc (b - suc a)) (pos (a - b))))
      (λ h. let size : b - a ≡ suc (b - suc a) = omega arith in rw size)
      (λ h. refl)

  -- -a + b is b - a
  sum_turned : (a b : ℕ) → sum f true a false b 1 ≡ sum f false b true a 1
  unfolding sum
  sum_turned a b =
      by_leb (suc b) a
      (λ more. cond (ltb a b) (round f false (b - a) 1) (round f more (a - b) 1) ≡ cond more (round f true (a - b) 1) (round f false (b - a) 1))
      (λ h. rw (le-ltb a b (omega arith)))
      (λ h. by_leb (suc a) b
      (λ less. cond less (round f false (b - a) 1) (round f false (a - b) 1) ≡ round f false (b - a) 1)
      (λ h'. refl)
      (λ h'. let same : a - b ≡ b - a = omega arith in rw same))

  sum_signed : (x : ℤ) (t : Bool) (b : ℕ) → sum f (negative x) (nat_abs x) t b 1 ≡ of_int f (x +ℤ signed t b)
  unfolding sum of_int
  sum_signed (pos a) false b = refl
  sum_signed (pos a) true zero = rw (le-ltb a 0 zero-le, sub-zero, add-zero)
  sum_signed (pos a) true (suc b) = sum_apart a (suc b)
  sum_signed (negsuc a) false b = sum_turned (suc a) b ∙ sum_apart b (suc a)
  sum_signed (negsuc a) true zero = rw (add-zero (suc a), +ℤ_idr (negsuc a))
  sum_signed (negsuc a) true (suc b) = let size : suc a + suc b ≡ suc (suc (a + b)) = omega arith in rw size

-- ---- comparisons of signs and sizes

less_signed : (x y : ℤ) → below (negative x) (nat_abs x) (negative y) (nat_abs y) ≡ lt_z x y
less_signed (pos m) (pos n) = refl
less_signed (pos m) (negsuc n) = refl
less_signed (negsuc m) (pos n) = lt-ltb 0 (suc m + n) (omega arith)
less_signed (negsuc m) (negsuc n) = leb-suc-suc (suc n) m

equal_signed : (x y : ℤ) → level (negative x) (nat_abs x) (negative y) (nat_abs y) ≡ same_whole x y
equal_signed (pos m) (pos n) = and-true (eqb m n)
equal_signed (pos zero) (negsuc n) = rw eqb-zero-suc
equal_signed (pos (suc m)) (negsuc n) = rw eqb-suc-zero (and-false (eqb (suc m) (suc n)))
equal_signed (negsuc m) (pos n) = rw eqb-suc-zero (and-false (eqb (suc m) n))
equal_signed (negsuc m) (negsuc n) = rw eqb-suc-suc (and-true (eqb m n))

-- ---- the operations on doubles

module _ (x y : ℤ) (x_held : nat_abs x ≤ 2 ^ 53) (y_held : nat_abs y ≤ 2 ^ 53) where
  pub add_whole : add binary64 (of_int binary64 x) (of_int binary64 y) ≡ of_int binary64 (x +ℤ y)
  add_whole =
      add_at_whole _ _ _ _ _ _ (whole_value x x_held) (whole_value y y_held) binary64
      ∙ sum_signed binary64 x (negative y) (nat_abs y)
      ∙ rw (signed_whole y)

  pub sub_whole : sub binary64 (of_int binary64 x) (of_int binary64 y) ≡ of_int binary64 (x -ℤ y)
  sub_whole =
      sub_at_whole _ _ _ _ _ _ (whole_value x x_held) (whole_value y y_held) binary64
      ∙ sum_signed binary64 x (not (negative y)) (nat_abs y)
      ∙ rw (signed_turned y)

  pub less_whole : lt (of_int binary64 x) (of_int binary64 y) ≡ lt_z x y
  less_whole = less_at_whole _ _ _ _ _ _ (whole_value x x_held) (whole_value y y_held) ∙ less_signed x y

  pub equal_whole : eq (of_int binary64 x) (of_int binary64 y) ≡ same_whole x y
  equal_whole = equal_at_whole _ _ _ _ _ _ (whole_value x x_held) (whole_value y y_held) ∙ equal_signed x y
