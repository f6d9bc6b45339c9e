-- The scores of a route: minus infinity or a whole number, as doubles, after document 01, "Edges and route": "every score is minus infinity or a
-- whole number that a double holds exactly".
-- Definitions first, then what is claimed of them: of scores that a double holds, the doubles' sums, differences and comparisons are the scores'.
-- Proofs: `proofs/Scores.antt`, `proofs/Sizes.antt`.
-- Assumes nothing.
use Rattle.std.specs.Prelude.{ℕ, ◌+◌, ◌^◌, ◌≤◌, Bool, true, false, ◌≡◌, eqb, ℤ, pos, negsuc, nat_abs, ◌+ℤ◌, ◌-ℤ◌, Float}
use Rattle.std.specs.Int.Signed.{lt_z}
use Rattle.std.specs.Float.{inf, binary64}
use Rattle.std.specs.Float.Ieee.{of_int, add, sub, lt, eq}
use Rattle.std.specs.Float.Ieee.Exact.{HasValue}

-- "minus infinity or a whole number"
pub data Score : Type 0 where
  minus_infinity : Score
  whole : ℤ → Score

-- a score as a double
unfoldable pub float_of : Score → Float
float_of minus_infinity = inf true
float_of (whole z) = of_int binary64 z

-- ---- arithmetic on scores

-- the sum of two scores
unfoldable pub plus : Score → Score → Score
plus minus_infinity t = minus_infinity
plus (whole a) minus_infinity = minus_infinity
plus (whole a) (whole b) = whole (a +ℤ b)

-- a score less a whole number
unfoldable pub minus : Score → ℤ → Score
minus minus_infinity b = minus_infinity
minus (whole a) b = whole (a -ℤ b)

-- whether the first score is less than the second
unfoldable pub less_than : Score → Score → Bool
less_than minus_infinity minus_infinity = false
less_than minus_infinity (whole b) = true
less_than (whole a) minus_infinity = false
less_than (whole a) (whole b) = lt_z a b

-- whether two whole numbers are equal
abbrev pub same_whole : ℤ → ℤ → Bool
same_whole (pos a) (pos b) = eqb a b
same_whole (pos a) (negsuc b) = false
same_whole (negsuc a) (pos b) = false
same_whole (negsuc a) (negsuc b) = eqb a b

-- whether two scores are equal
unfoldable pub equals : Score → Score → Bool
equals minus_infinity minus_infinity = true
equals minus_infinity (whole b) = false
equals (whole a) minus_infinity = false
equals (whole a) (whole b) = same_whole a b

-- ---- the size of a score

-- minus infinity, or a whole number of absolute value at most the bound
abbrev pub Within : ℕ → Score → Type 0
Within bound minus_infinity = Unit {0}
Within bound (whole z) = nat_abs z ≤ bound

-- "that a double holds exactly": up to 2^53, to which doubles have no gaps
abbrev pub Held : Score → Type 0
Held s = Within (2 ^ 53) s

-- ---- what is claimed

-- the sign of a whole number, as a float has it: true where it is negative
abbrev pub negative : ℤ → Bool
negative (pos n) = false
negative (negsuc n) = true

-- the double of a whole number that is held is that number: finite, with its sign and its size
abbrev pub WholeExact : Type 0
WholeExact = (z : ℤ) → Held (whole z) → HasValue (float_of (whole z)) (negative z) (nat_abs z) 1

-- sums, differences and comparisons of the doubles are those of the scores
abbrev pub SumExact : Type 0
SumExact = (s t : Score) → Held s → Held t → add binary64 (float_of s) (float_of t) ≡ float_of (plus s t)

abbrev pub DifferenceExact : Type 0
DifferenceExact = (s : Score) (b : ℤ) → Held s → Held (whole b) → sub binary64 (float_of s) (float_of (whole b)) ≡ float_of (minus s b)

abbrev pub LessThanExact : Type 0
LessThanExact = (s t : Score) → Held s → Held t → lt (float_of s) (float_of t) ≡ less_than s t

abbrev pub EqualsExact : Type 0
EqualsExact = (s t : Score) → Held s → Held t → eq (float_of s) (float_of t) ≡ equals s t

-- one edge: "the stored L(freq) - L(total) + score at the end, worked out in that order"
abbrev pub EdgeExact : Type 0
EdgeExact =
    (log : Score) (log_total : ℤ) (score : Score)
    → Held log
    → Held (whole log_total)
    → Held (minus log log_total)
    → Held score
    → add binary64 (sub binary64 (float_of log) (float_of (whole log_total))) (float_of score) ≡ float_of (plus (minus log log_total) score)

-- a score within a bound is within a larger one, and a sum within the sum of the bounds
abbrev pub WithinMore : Type 0
WithinMore = (a b : ℕ) (s : Score) → a ≤ b → Within a s → Within b s

abbrev pub SumWithin : Type 0
SumWithin = (a b : ℕ) (s t : Score) → Within a s → Within b t → Within (a + b) (plus s t)
