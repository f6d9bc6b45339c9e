-- Squarings of a significand. A significand is normal: its highest one stands at position 31. Its square p is then from 2^62 to 2^64 - 1, so
-- that floor(p/2^32), where p is at least 2^63, and floor(p/2^31), where it is not, are normal again. Each squaring gives one bit, so the bits of
-- k squarings are a number below 2^k.
-- Assumes nothing.
use Prim.Native.Nat.{ℕ, zero, suc, ◌+◌, ◌-◌, ◌*◌, ◌/◌, ◌^◌, ◌≤◌, ◌<◌}
use mathlib.Core.Bool.{cond}
use mathlib.Core.Path.{◌≡◌, refl}
use native.Mathlib.Nat.{mul-le-mul, mul-le-mul_right, two-pow-succ}
use native.Mathlib.Omega.{arith}
use borrow.Author.Tests.{le-leb, lt-leb}
use Rattle.score.specs.Logarithm.{next_bit, next_significand, bits_of}
use Rattle.score.proofs.Tests.{by_leb}

-- the highest one stands at position 31
pub record Normal (m : ℕ) : Type 0 where
  pub low : 2 ^ 31 ≤ m
  pub high : m < 2 ^ 32

-- ---- one squaring

-- the two outcomes of a squaring
pub outcome_one : (m : ℕ) → 2 ^ 63 ≤ m * m → (next_bit m ≡ 1) × (next_significand m ≡ m * m / 2 ^ 32)
unfolding next_bit next_significand
outcome_one m h = let passed = le-leb (2 ^ 63) (m * m) h in (rw passed, rw passed)

pub outcome_zero : (m : ℕ) → m * m < 2 ^ 63 → (next_bit m ≡ 0) × (next_significand m ≡ m * m / 2 ^ 31)
unfolding next_bit next_significand
outcome_zero m h = let failed = lt-leb (2 ^ 63) (m * m) h in (rw failed, rw failed)

-- what holds of both outcomes holds of the squaring
pub by_outcome :
    (m : ℕ) (P : ℕ → ℕ → Type 0)
    → (2 ^ 63 ≤ m * m → P 1 (m * m / 2 ^ 32))
    → (m * m < 2 ^ 63 → P 0 (m * m / 2 ^ 31))
    → P (next_bit m) (next_significand m)
unfolding next_bit next_significand
by_outcome m P one none =
    by_leb (2 ^ 63) (m * m) (λ test. P (cond test 1 0) (cond test (m * m / 2 ^ 32) (m * m / 2 ^ 31))) one none

pub bit_le : (m : ℕ) → next_bit m ≤ 1
bit_le m = by_outcome m (λ bit next. bit ≤ 1) (λ h. omega arith) (λ h. omega arith)

-- the square of a normal significand
pub square_low : (m : ℕ) → Normal m → 2 ^ 62 ≤ m * m
square_low m normal = mul-le-mul normal.low normal.low

pub square_below : (m : ℕ) → m < 2 ^ 32 → m * m < 2 ^ 64
square_below m below = let top : m ≤ 2 ^ 32 - 1 = omega arith in omega (arith, mul-le-mul top top)

pub next_normal : (m : ℕ) → Normal m → Normal (next_significand m)
next_normal m normal =
    let low = square_low m normal in
    let high = square_below m normal.high in
    by_outcome m (λ bit next. Normal next) (λ h. omega (arith, low, high)) (λ h. omega (arith, low, high))

-- ---- many squarings

pub bits_of_none : (m : ℕ) → bits_of 0 m ≡ 0
unfolding bits_of
bits_of_none m = refl

pub bits_of_more : (k m : ℕ) → bits_of (suc k) m ≡ next_bit m * 2 ^ k + bits_of k (next_significand m)
unfolding bits_of
bits_of_more k m = refl

pub bits_lt : (k m : ℕ) → bits_of k m < 2 ^ k
bits_lt zero m = omega (arith, bits_of_none m)
bits_lt (suc k) m =
    omega (arith, bits_of_more k m, bits_lt k (next_significand m), mul-le-mul_right (2 ^ k) (bit_le m), two-pow-succ k)
