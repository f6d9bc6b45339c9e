-- Sizes of scores: the absolute value of a difference of two natural numbers is at most the larger one, that of a sum in ℤ at most the sum of the
-- absolute values.
-- Assumes nothing.
use Prim.Native.Nat.{ℕ, zero, suc, ◌+◌, ◌-◌, ◌≤◌}
use mathlib.Core.Bool.{cond}
use native.Mathlib.Nat.{le_trans}
use native.Mathlib.Omega.{arith}
use lib.IntN.{ℤ, pos, negsuc, nat_abs, sub_ℕ, ◌+ℤ◌, ◌-ℤ◌}
use Rattle.score.specs.Scores.{minus_infinity, whole, plus, WithinMore, SumWithin}
use Rattle.score.proofs.Tests.{by_leb}

-- a - b, for two natural numbers
apart_size : (a b bound : ℕ) → a ≤ bound → b ≤ bound → nat_abs (sub_ℕ a b) ≤ bound
apart_size a b bound a_within b_within =
    by_leb (suc a) b (λ less. nat_abs (cond less (negsuc (b - suc a)) (pos (a - b))) ≤ bound) (λ h. omega arith) (λ h. omega arith)

-- the same as a difference in ℤ
pub difference_size : (a b bound : ℕ) → a ≤ bound → b ≤ bound → nat_abs (pos a -ℤ pos b) ≤ bound
difference_size a zero bound a_within b_within = omega arith
difference_size a (suc b) bound a_within b_within = apart_size a (suc b) bound a_within b_within

-- a sum of two whole numbers
sum_size : (x y : ℤ) → nat_abs (x +ℤ y) ≤ nat_abs x + nat_abs y
sum_size (pos a) (pos b) = omega arith
sum_size (pos a) (negsuc b) = apart_size a (suc b) (a + suc b) (omega arith) (omega arith)
sum_size (negsuc a) (pos b) = apart_size b (suc a) (suc a + b) (omega arith) (omega arith)
sum_size (negsuc a) (negsuc b) = omega arith

pub within_more : WithinMore
within_more a b minus_infinity more within = tt
within_more a b (whole z) more within = le_trans within more

pub sum_within : SumWithin
unfolding plus
sum_within a b minus_infinity t s_within t_within = tt
sum_within a b (whole x) minus_infinity s_within t_within = tt
sum_within a b (whole x) (whole y) s_within t_within = omega (arith, sum_size x y)
