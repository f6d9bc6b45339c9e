-- What is claimed of the logarithm besides its bound. The position of the highest one is at most 31 and the bits are below 2^24, so a logarithm is
-- below 32 × 2^24 = 2^29: a double holds it, two of them differ by less than 2^29, and an edge's sum is exact. The starred values are computed.
-- Assumes nothing.
use Prim.Native.Nat.{ℕ, zero, suc, ◌^◌, ◌<◌}
use mathlib.Core.Path.{◌≡◌, refl}
use native.Mathlib.Omega.{arith}
use lib.Count.{count_leading_zeros}
use lib.Dec.{T, le→leb}
use lib.IntN.{pos}
use lib.Ieee.{Float, binary64, of_int, in_float}
use Rattle.score.specs.Scores.{minus_infinity, whole, float_of, minus}
use Rattle.score.specs.Logarithm.{highest_one, significand, next_bit, next_significand, bits_of, log_of, L, log_float, StarredLogarithms, LogarithmSmall}
use Rattle.score.specs.Logarithm.{LogarithmHeld, LogarithmDifference, LogarithmEdge}
use Rattle.score.proofs.Scores.{edge_exact}
use Rattle.score.proofs.Sizes.{within_more, difference_size}
use Rattle.score.proofs.Squarings.{bits_lt}

pub starred_logarithms : StarredLogarithms
unfolding L log_of highest_one count_leading_zeros significand bits_of next_bit next_significand
starred_logarithms = (refl, refl, refl, refl, refl)

pub logarithm_small : LogarithmSmall
unfolding log_of highest_one
logarithm_small n = omega (arith, bits_lt 24 (significand n))

pub logarithm_held : LogarithmHeld
unfolding L
logarithm_held zero = tt
logarithm_held (suc n) = omega (arith, logarithm_small (suc n))

pub logarithm_difference : LogarithmDifference
unfolding L minus
logarithm_difference zero total = tt
logarithm_difference (suc n) total =
    difference_size (log_of (suc n)) (log_of total) (2 ^ 29)
    (omega (arith, logarithm_small (suc n)))
    (omega (arith, logarithm_small total))

-- ---- the two cases of L

pub log_of_zero : (n : ℕ) → n ≡ 0 → L n ≡ minus_infinity
unfolding L
log_of_zero zero none = refl
log_of_zero (suc n) none = absurd (omega arith)

pub log_of_positive : (n : ℕ) → 0 < n → L n ≡ whole (pos (log_of n))
unfolding L
log_of_positive zero some = absurd (omega arith)
log_of_positive (suc n) some = refl

-- ---- one edge

pub logarithm_edge : LogarithmEdge
unfolding log_float
logarithm_edge freq total score some held =
    rw (log_of_positive total some)
    (edge_exact (L freq) (pos (log_of total)) score
    (logarithm_held freq)
    (omega (arith, logarithm_small total))
    (within_more (2 ^ 29) (2 ^ 53) (minus (L freq) (pos (log_of total))) (omega arith) (logarithm_difference freq total))
    held)

-- ---- the doubles that `log` returns

pub float_of_zero : (n : ℕ) (r : Float) → n ≡ 0 → r ≡ float_of minus_infinity → r ≡ log_float n
unfolding log_float
float_of_zero n r none e = rw (log_of_zero n none) e

pub float_of_positive : (n r : ℕ) → (n ≡ 0 → ⊥) → r ≡ log_of n → of_int binary64 (pos r) ≡ log_float n
unfolding log_float float_of
float_of_positive n r some e = let h : 0 < n = omega (arith, some) in rw (log_of_positive n h, e)

-- the cast to a double loses nothing
pub log_in_float : (n r : ℕ) → r ≡ log_of n → T (in_float binary64 (pos r))
unfolding in_float
log_in_float n r e = le→leb r (2 ^ 53) (omega (arith, logarithm_small n))
