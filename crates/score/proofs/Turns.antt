-- The turns of the loop of `log_scaled`. With `left` turns to go, the bits so far, each at its place, and those of `left` squarings of m are together
-- the bits of the definition. A turn moves the next bit, which is worth 2^(left-1), from the second part into the first. After the last turn the bits
-- are all there.
-- Assumes nothing.
use Prim.Native.Nat.{ℕ, zero, suc, ◌+◌, ◌-◌, ◌*◌, ◌/◌, ◌%◌, ◌^◌, ◌≤◌, ◌<◌}
use mathlib.Core.Path.{◌≡◌, sym}
use native.Mathlib.Omega.{arith}
use lib.Count.{count_leading_zeros}
use lib.Pow.{pow_mono}
use mir.Syntax.{w64}
use mir.Val.{Fits}
use Rattle.score.specs.Logarithm.{significand, next_bit, next_significand, bits_of, log_of}
use Rattle.score.proofs.HighestOne.{position, significand_normal, shifted}
use Rattle.score.proofs.Squarings.{Normal, outcome_one, outcome_zero, square_below, next_normal, bits_of_none, bits_of_more, bits_lt}

-- what holds before each turn
pub record Turns (n m bits left : ℕ) : Type 0 where
  pub normal : Normal m
  pub few : left ≤ 24
  pub small : bits < 2 ^ 24
  pub collected : bits + bits_of left m ≡ bits_of 24 (significand n)

-- the bits are small, since they are a part of the definition's
bits_small : (n m bits left : ℕ) → bits + bits_of left m ≡ bits_of 24 (significand n) → bits < 2 ^ 24
bits_small n m bits left collected = omega (arith, bits_lt 24 (significand n))

pub starts : (n : ℕ) → 0 < n → n < 2 ^ 32 → Turns n (n * 2 ^ count_leading_zeros 32 n % 2 ^ 64) 0 24
starts n some fits =
    rw (shifted n some fits)
    (record { normal = significand_normal n some fits; few = omega arith; small = omega arith; collected = omega arith })

-- the next bit moves over
collected_next : (k m bits total : ℕ) → bits + bits_of (suc k) m ≡ total → bits + next_bit m * 2 ^ k + bits_of k (next_significand m) ≡ total
collected_next k m bits total collected = moved (next_bit m * 2 ^ k) (bits_of k (next_significand m)) (rw (bits_of_more k m) at collected)
  where
    moved : (bit rest : ℕ) → bits + (bit + rest) ≡ total → bits + bit + rest ≡ total
    moved bit rest e = omega arith

-- one turn, whatever its bit
turned :
    (n m bits left m' bits' : ℕ)
    → Turns n m bits left
    → 0 < left
    → m' ≡ next_significand m
    → bits' ≡ bits + next_bit m * 2 ^ (left - 1)
    → Turns n m' bits' (left - 1)
turned n m bits zero m' bits' turns more m_next bits_next = absurd (omega arith)
turned n m bits (suc k) m' bits' turns more m_next bits_next =
    let fewer : suc k - 1 ≡ k = omega arith in
    let collected = collected_next k m bits (bits_of 24 (significand n)) turns.collected in
    rw (fewer, m_next, rw fewer at bits_next)
    (record {
      normal = next_normal m turns.normal;
      few = omega arith;
      small = bits_small n (next_significand m) (bits + next_bit m * 2 ^ k) k collected;
      collected = collected;
    })

-- the code keeps the square of m alone
pub record Squared (n p bits left : ℕ) : Type 0 where
  pub m : ℕ
  pub square : p ≡ m * m
  pub turns : Turns n m bits left

pub starts_squared : (n p : ℕ) → 0 < n → n < 2 ^ 32 → p ≡ (n * 2 ^ count_leading_zeros 32 n % 2 ^ 64) * (n * 2 ^ count_leading_zeros 32 n % 2 ^ 64) → Squared n p 0 24
starts_squared n p some fits square = record { m = n * 2 ^ count_leading_zeros 32 n % 2 ^ 64; square = square; turns = starts n some fits }

-- a turn of the code, where its test holds and where it fails
module _ (n p bits left : ℕ) (squared : Squared n p bits left) (more : 0 < left) where
  -- what the next bit is worth
  worth : (2 ^ (left - 1) ≤ 2 ^ 23) × (1 * 2 ^ (left - 1) % 2 ^ 64 ≡ 2 ^ (left - 1))
  worth =
      let within : left - 1 ≤ 23 = omega (arith, squared.turns.few) in
      let small : 2 ^ (left - 1) ≤ 2 ^ 23 = pow_mono within in
      (small, omega arith)

  module _ (p' : ℕ) where
    pub turn_one : (bits' : ℕ) → 2 ^ 63 ≤ p → p' ≡ (p / 2 ^ 32) * (p / 2 ^ 32) → bits' ≡ bits + 1 * 2 ^ (left - 1) % 2 ^ 64 → Squared n p' bits' (left - 1)
    turn_one bits' passed next bits_next =
        let same = squared.square in
        let outcome = outcome_one squared.m (rw same at passed) in
        let one : next_bit squared.m * 2 ^ (left - 1) ≡ 2 ^ (left - 1) = rw outcome.0 (omega arith) in
        record {
          m = p / 2 ^ 32;
          square = next;
          turns = turned n squared.m bits left (p / 2 ^ 32) bits' squared.turns more (rw same (sym outcome.1)) (omega (arith, one, worth));
        }

    pub turn_zero : p < 2 ^ 63 → p' ≡ (p / 2 ^ 31 % 2 ^ 32) * (p / 2 ^ 31 % 2 ^ 32) → Squared n p' bits (left - 1)
    turn_zero failed next =
        let same = squared.square in
        let outcome = outcome_zero squared.m (rw same at failed) in
        let whole : p / 2 ^ 31 % 2 ^ 32 ≡ p / 2 ^ 31 = omega arith in
        let none : next_bit squared.m * 2 ^ (left - 1) ≡ 0 = rw outcome.0 (omega arith) in
        record {
          m = p / 2 ^ 31;
          square = rw whole at next;
          turns = turned n squared.m bits left (p / 2 ^ 31) bits squared.turns more (rw same (sym outcome.1)) (omega (arith, none));
        }

-- the squares fit the code's 64 bits
pub square_fits : (x : ℕ) → x < 2 ^ 32 → Fits w64 (x * x)
square_fits x below = record { fits = square_below x below }

-- after the last turn
pub ends : (n p bits left : ℕ) → 0 < n → n < 2 ^ 32 → Squared n p bits left → left ≤ 0 → (31 - count_leading_zeros 32 n) * 2 ^ 24 + bits ≡ log_of n
unfolding log_of
ends n p bits zero some fits squared none = omega (arith, position n some fits, squared.turns.collected, bits_of_none squared.m)
ends n p bits (suc k) some fits squared none = absurd (omega arith)
