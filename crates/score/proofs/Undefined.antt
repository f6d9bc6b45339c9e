-- The laws of NaN and of the infinities. They are the library's clauses for these operands, by cases on the other one, and ask of a whole number only
-- that its double is finite.
-- Assumes nothing.
use mathlib.Core.Bool.{false}
use mathlib.Core.Path.{◌≡◌, refl}
use lib.Ieee.{Float, nan, inf, fin, binary64, add, sub, lt, eq}
use Rattle.score.specs.Scores.{float_of}
use Rattle.score.specs.Undefined.{NaNLaws, MinusInfinityLaws, PlusInfinityLaws}
use Rattle.score.proofs.Scores.{whole_finite}

-- a NaN on the left is met first, one on the right after the kind of the left operand
sum_right : (x : Float) → add binary64 x nan ≡ nan
unfolding add
sum_right nan = refl
sum_right (inf s) = refl
sum_right (fin s m e) = refl

less_right : (x : Float) → lt x nan ≡ false
unfolding lt
less_right nan = refl
less_right (inf s) = refl
less_right (fin s m e) = refl

equal_right : (x : Float) → eq x nan ≡ false
unfolding eq
equal_right nan = refl
equal_right (inf s) = refl
equal_right (fin s m e) = refl

pub nan_laws : NaNLaws
unfolding add sub lt eq
nan_laws =
    record {
      sum_left = λ x. refl;
      sum_right = sum_right;
      difference_left = λ x. refl;
      difference_right = sum_right;
      less_left = λ x. refl;
      less_right = less_right;
      equal_left = λ x. refl;
      equal_right = equal_right;
    }

pub minus_infinity_laws : MinusInfinityLaws
unfolding float_of sub
minus_infinity_laws = record { from_itself = refl; from_whole = λ z held. rw (whole_finite z held).3 }

pub plus_infinity_laws : PlusInfinityLaws
unfolding add lt eq
plus_infinity_laws =
    record {
      plus_whole = λ z held. rw (whole_finite z held).3;
      plus_nan = refl;
      plus_itself = refl;
      not_less = refl;
      equal = refl;
    }
