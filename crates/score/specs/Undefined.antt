-- What doubles do beyond scores: NaN and plus infinity. In a book whose total is 0, L(total) is minus infinity, so that L(freq) - L(total) is NaN or
-- plus infinity; document 01, "Edges and route": "a NaN first edge stays, so at total 0 the shortest word wins". These are the laws that the route
-- goes by there.
-- Proofs: `proofs/Undefined.antt`.
-- Assumes nothing.
use Rattle.std.specs.Prelude.{true, false, ◌≡◌, ℤ, Float}
use Rattle.std.specs.Float.{nan, inf, binary64}
use Rattle.std.specs.Float.Ieee.{add, sub, lt, eq}
use Rattle.score.specs.Scores.{minus_infinity, whole, float_of, Held}

-- where a NaN stands, a sum or a difference is NaN, and no comparison holds
pub record NaNLaws : Type 0 where
  pub sum_left : (x : Float) → add binary64 nan x ≡ nan
  pub sum_right : (x : Float) → add binary64 x nan ≡ nan
  pub difference_left : (x : Float) → sub binary64 nan x ≡ nan
  pub difference_right : (x : Float) → sub binary64 x nan ≡ nan
  pub less_left : (x : Float) → lt nan x ≡ false
  pub less_right : (x : Float) → lt x nan ≡ false
  pub equal_left : (x : Float) → eq nan x ≡ false
  pub equal_right : (x : Float) → eq x nan ≡ false

-- minus infinity taken off: L(freq) - L(total) at a total of 0 is NaN for a frequency of 0, and else plus infinity, as is 0 - L(total)
pub record MinusInfinityLaws : Type 0 where
  pub from_itself : sub binary64 (float_of minus_infinity) (float_of minus_infinity) ≡ nan
  pub from_whole : (z : ℤ) → Held (whole z) → sub binary64 (float_of (whole z)) (float_of minus_infinity) ≡ inf false

-- plus infinity, with what the score at the end may be there, and compared with itself
pub record PlusInfinityLaws : Type 0 where
  pub plus_whole : (z : ℤ) → Held (whole z) → add binary64 (inf false) (float_of (whole z)) ≡ inf false
  pub plus_nan : add binary64 (inf false) nan ≡ nan
  pub plus_itself : add binary64 (inf false) (inf false) ≡ inf false
  pub not_less : lt (inf false) (inf false) ≡ false
  pub equal : eq (inf false) (inf false) ≡ true
