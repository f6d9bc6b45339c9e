-- The logarithm L of document 01, "A line enters", step by step in its words, and what is claimed of it. Proofs: `proofs/HighestOne.antt`,
-- `proofs/Bound.antt`, `proofs/Logarithm.antt`.
-- Assumes nothing.
use Rattle.std.specs.Prelude.{ℕ, zero, suc, ◌+◌, ◌-◌, ◌*◌, ◌/◌, ◌^◌, ◌≤◌, ◌<◌, cond, ◌≡◌, leb, pos, Float}
use Rattle.std.specs.Int.Count.{count_leading_zeros}
use Rattle.std.specs.Float.{binary64}
use Rattle.std.specs.Float.Ieee.{add, sub}
use Rattle.score.specs.Scores.{Score, minus_infinity, whole, float_of, plus, minus, Within, Held}

-- "For n ≥ 1 let e be its highest one's position", the lowest digit being at 0: n has 32 digits, first its leading zeros
unfoldable pub highest_one : ℕ → ℕ
highest_one n = 31 - count_leading_zeros 32 n

-- "and m = n × 2^(31-e)"
unfoldable pub significand : ℕ → ℕ
significand n = n * 2 ^ (31 - highest_one n)

-- "p = m × m; if p ≥ 2^63 the next bit is 1 .., else 0"
unfoldable pub next_bit : ℕ → ℕ
next_bit m = cond (leb (2 ^ 63) (m * m)) 1 0

-- "if p ≥ 2^63 .. m = floor(p/2^32), else .. m = floor(p/2^31)"
unfoldable pub next_significand : ℕ → ℕ
next_significand m = cond (leb (2 ^ 63) (m * m)) (m * m / 2 ^ 32) (m * m / 2 ^ 31)

-- the bits of so many squarings from m, "first highest"
unfoldable pub bits_of : ℕ → ℕ → ℕ
bits_of zero m = 0
bits_of (suc times) m = next_bit m * 2 ^ times + bits_of times (next_significand m)

-- "24 times"; "L(n) = e × 2^24 + the bits"
unfoldable pub log_of : ℕ → ℕ
log_of n = highest_one n * 2 ^ 24 + bits_of 24 (significand n)

-- "L(0) is minus infinity"
unfoldable pub L : ℕ → Score
L zero = minus_infinity
L (suc n) = whole (pos (log_of (suc n)))

-- L as a double: what a record holds of its frequency
unfoldable pub log_float : ℕ → Float
log_float n = float_of (L n)

-- ---- what is claimed

-- the highest one stands at that position
abbrev pub HighestOne : Type 0
HighestOne = (n : ℕ) → 1 ≤ n → n ≤ 4294967295 → (2 ^ highest_one n ≤ n) × (n < 2 ^ (highest_one n + 1))

-- "Proved for n ≥ 1: 2^L(n) ≤ n^(2^24) < 2^(L(n)+2)"
abbrev pub LogarithmBound : Type 0
LogarithmBound = (n : ℕ) → 1 ≤ n → n ≤ 4294967295 → (2 ^ log_of n ≤ n ^ (2 ^ 24)) × (n ^ (2 ^ 24) < 2 ^ (log_of n + 2))

-- "*L: 0 minus infinity, 1: 0, 2: 16777216, 3: 26591258, 4294967295: 536870911"
abbrev pub StarredLogarithms : Type 0
StarredLogarithms =
    (L 0 ≡ minus_infinity)
    × (L 1 ≡ whole (pos 0))
    × (L 2 ≡ whole (pos 16777216))
    × (L 3 ≡ whole (pos 26591258))
    × (L 4294967295 ≡ whole (pos 536870911))

-- L(n) is below 2^29
abbrev pub LogarithmSmall : Type 0
LogarithmSmall = (n : ℕ) → log_of n < 2 ^ 29

-- so a double holds it
abbrev pub LogarithmHeld : Type 0
LogarithmHeld = (n : ℕ) → Held (L n)

-- L(freq) - L(total) is minus infinity or a whole number of absolute value at most 2^29
abbrev pub LogarithmDifference : Type 0
LogarithmDifference = (freq total : ℕ) → Within (2 ^ 29) (minus (L freq) (pos (log_of total)))

-- "With total ≥ 1, and each stored logarithm L of its frequency": "L(freq) - L(total) + score at the end, worked out in that order", is exact.
-- The lone step, which "has 0 for L(freq)", is the case of frequency 1.
abbrev pub LogarithmEdge : Type 0
LogarithmEdge =
    (freq total : ℕ) (score : Score)
    → 1 ≤ total
    → Held score
    → add binary64 (sub binary64 (log_float freq) (log_float total)) (float_of score) ≡ float_of (plus (minus (L freq) (pos (log_of total))) score)
