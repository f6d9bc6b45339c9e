-- Numbers of slots and places among them. A number from 1 to 2^64 - 1 has 64 digits: its leading zeros, its highest one at log2, and the digits
-- below that one. So 64 - log2 is one more than the zeros; a hash of 64 bits, shifted right by it, keeps log2 bits, and is below the number of
-- slots, which is 2^log2. Assumes nothing.
use Prim.Native.Nat.{ℕ, ◌+◌, ◌-◌, ◌*◌, ◌/◌, ◌%◌, ◌^◌, ◌≤◌, ◌<◌}
use mathlib.Core.Path.{◌≡◌, refl}
use mathlib.Core.Bool.{Bool, true, false, cond, and-false, and-eq-true_iff, ◌&&◌}
use native.Mathlib.Nat.{mod-lt, one-mul, mod-eq_of_lt}
use native.Mathlib.Decide.{dec_lt}
use native.Mathlib.Omega.{arith}
use borrow.Author.Tests.{eq-eqb, ne_eqb, le-leb, lt-leb, eqb-true, eqb-false, leb-true}
use lib.Count.{count_leading_zeros, leading_top}
use lib.Dec.{leb, eqb}
use lib.Pow.{pow_pos, pow_mono, pow-lt, shr_lt}
use Rattle.trie.specs.Trie.{log2, SlotCount, start_slot, next_slot}
use Rattle.trie.specs.SlotCounts.{most_slots, slot_count}
use Rattle.trie.specs.Claims.{SlotCountTested, StartsAtSlot}

-- ---- leading zeros

module _ (n : ℕ) (some : 0 < n) (fits : n < 2 ^ 64) where
  pub zeros_below : count_leading_zeros 64 n ≤ 63
  zeros_below = omega (arith, (leading_top 64 n some fits).1)

  pub zeros_and_log : count_leading_zeros 64 n + log2 n ≡ 63
  unfolding log2
  zeros_and_log = omega (arith, zeros_below)

-- ---- the numbers that are allowed

module _ (n : ℕ) (allowed : SlotCount n) where
  pub size : (16 ≤ n) × (n ≤ most_slots)
  unfolding SlotCount
  size = (omega (arith, allowed.0, pow_mono allowed.1), omega (arith, allowed.0, pow_mono allowed.2))

  pub slot_left : 0 < n
  slot_left = omega (arith, size)

  pub shift_is : count_leading_zeros 64 n + 1 ≡ 64 - log2 n
  shift_is = let s = size in omega (arith, zeros_and_log n (omega arith) (omega arith))

  pub zeros_fit : count_leading_zeros 64 n + 1 < 2 ^ 32
  zeros_fit = omega (arith, shift_is)

  pub shift_below : (shift : ℕ) → shift ≡ 64 - log2 n → shift < 64
  unfolding SlotCount
  shift_below shift e = omega (arith, allowed.1)

pub starts_at_slot : StartsAtSlot
unfolding SlotCount start_slot
starts_at_slot n key allowed =
    let whole : log2 n + (64 - log2 n) ≡ 64 = omega (arith, allowed.2) in
    let below : key * 0x9E3779B97F4A7C15 % 2 ^ 64 / 2 ^ (64 - log2 n) < 2 ^ log2 n = shr_lt (log2 n) (64 - log2 n) (rw whole (mod-lt _ (pow_pos 64))) in
    omega (arith, allowed.0)

-- a power of two is as large as its exponent is
exponent_le : (a b : ℕ) → 2 ^ a ≤ 2 ^ b → a ≤ b
exponent_le a b h = elim (dec_lt b a) [ yes less ↦ absurd (omega (arith, pow-lt less)) | no more ↦ omega arith ]

pub slot_count_tested : SlotCountTested
unfolding SlotCount slot_count
slot_count_tested n = (
  λ tested.
      let halves = (and-eq-true_iff (leb 16 n && leb n most_slots) (eqb n (2 ^ log2 n))).0 tested in
      let bounds = (and-eq-true_iff (leb 16 n) (leb n most_slots)).0 halves.0 in
      let power : n ≡ 2 ^ log2 n = eqb-true _ _ halves.1 in
      let low : 16 ≤ n = leb-true _ _ bounds.0 in
      let high : n ≤ most_slots = leb-true _ _ bounds.1 in
      (power, exponent_le 4 (log2 n) (omega arith), exponent_le (log2 n) 22 (omega arith)),
  λ allowed. let s = size n allowed in rw (le-leb _ _ s.0, le-leb _ _ s.1) (eq-eqb _ _ allowed.0),
)

-- the test as the code writes it
module _ (n : ℕ) where
  pub too_few : n < 16 → false ≡ slot_count n
  unfolding slot_count
  too_few h = rw (lt-leb 16 n h)

  pub too_many : most_slots < n → false ≡ slot_count n
  unfolding slot_count
  too_many h = rw (lt-leb n most_slots h, and-false)

  pub by_power : 16 ≤ n → n ≤ most_slots → eqb n (1 * 2 ^ (63 - count_leading_zeros 64 n) % 2 ^ 64) ≡ slot_count n
  unfolding slot_count log2
  by_power low high =
      let below : 63 - count_leading_zeros 64 n < 64 = omega arith in
      rw (one-mul, mod-eq_of_lt (pow-lt below), le-leb 16 n low, le-leb n most_slots high)

-- ---- the next slot

pub next_wraps : (n i : ℕ) → i + 1 ≡ n → 0 ≡ next_slot n i
unfolding next_slot
next_wraps n i e = rw (eq-eqb (i + 1) n e)

pub next_goes_on : (n i : ℕ) → (i + 1 ≡ n → ⊥) → i + 1 ≡ next_slot n i
unfolding next_slot
next_goes_on n i e = rw (ne_eqb (i + 1) n e)

next_by : (n i : ℕ) (wraps : Bool) → eqb (i + 1) n ≡ wraps → i < n → cond wraps 0 (i + 1) < n
next_by n i true e h = omega arith
next_by n i false e h = let more : i + 1 ≡ n → ⊥ = eqb-false _ _ e in omega arith

-- it is a slot
pub next_below : (n i : ℕ) → i < n → next_slot n i < n
unfolding next_slot
next_below n i h = next_by n i (eqb (i + 1) n) refl h
