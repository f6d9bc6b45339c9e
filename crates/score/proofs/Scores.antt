-- Doubles of scores: sums, differences and comparisons are exact. Of two whole numbers this is `Whole`. Minus infinity takes part as the library's
-- infinity does, which asks of the other operand only that it is finite, and the double of a whole number up to 2^53 is.
-- Assumes nothing.
use Prim.Native.Nat.{ℕ}
use mathlib.Core.Bool.{Bool}
use mathlib.Core.Path.{◌≡◌, refl}
use lib.IntN.{ℤ, nat_abs}
use lib.Ieee.{Float, nan, inf, fin, add, sub, lt, eq}
use lib.Ieee.Exact.{HasValue}
use Rattle.score.specs.Scores.{minus_infinity, whole, float_of, plus, minus, less_than, equals, negative, Held, WholeExact, SumExact, DifferenceExact}
use Rattle.score.specs.Scores.{LessThanExact, EqualsExact, EdgeExact}
use Rattle.score.proofs.Whole.{whole_value, add_whole, sub_whole, less_whole, equal_whole}

pub whole_exact : WholeExact
unfolding float_of
whole_exact z held = whole_value z held

-- a whole number's double is finite
pub whole_finite : (z : ℤ) → Held (whole z) → (s : Bool) × (m : ℕ) × (e : ℤ) × (float_of (whole z) ≡ fin s m e)
whole_finite z held = go (float_of (whole z)) (whole_exact z held)
  where
    go : (x : Float) → HasValue x (negative z) (nat_abs z) 1 → (s : Bool) × (m : ℕ) × (e : ℤ) × (x ≡ fin s m e)
    go nan value = absurd value
    go (inf s) value = absurd value
    go (fin s m e) value = (s, m, e, refl)

pub sum_exact : SumExact
unfolding float_of plus add
sum_exact minus_infinity minus_infinity s_held t_held = refl
sum_exact minus_infinity (whole b) s_held t_held = rw (whole_finite b t_held).3
sum_exact (whole a) minus_infinity s_held t_held = rw (whole_finite a s_held).3
sum_exact (whole a) (whole b) s_held t_held = add_whole a b s_held t_held

pub difference_exact : DifferenceExact
unfolding float_of minus sub
difference_exact minus_infinity b s_held b_held = rw (whole_finite b b_held).3
difference_exact (whole a) b s_held b_held = sub_whole a b s_held b_held

pub less_than_exact : LessThanExact
unfolding float_of less_than lt
less_than_exact minus_infinity minus_infinity s_held t_held = refl
less_than_exact minus_infinity (whole b) s_held t_held = rw (whole_finite b t_held).3
less_than_exact (whole a) minus_infinity s_held t_held = rw (whole_finite a s_held).3
less_than_exact (whole a) (whole b) s_held t_held = less_whole a b s_held t_held

pub equals_exact : EqualsExact
unfolding float_of equals eq
equals_exact minus_infinity minus_infinity s_held t_held = refl
equals_exact minus_infinity (whole b) s_held t_held = rw (whole_finite b t_held).3
equals_exact (whole a) minus_infinity s_held t_held = rw (whole_finite a s_held).3
equals_exact (whole a) (whole b) s_held t_held = equal_whole a b s_held t_held

pub edge_exact : EdgeExact
edge_exact log log_total score log_held total_held difference_held score_held =
    rw (difference_exact log log_total log_held total_held) (sum_exact (minus log log_total) score difference_held score_held)
