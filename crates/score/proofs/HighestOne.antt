-- The position of the highest one. The 32 digits of a number from 1 to 2^32 - 1 are its leading zeros, its highest one and the digits below that
-- one, so 31 less the zeros is the position. Shifted by the zeros, the number has its highest one at position 31: it is normal.
-- Assumes nothing.
use Prim.Native.Nat.{ℕ, suc, ◌+◌, ◌-◌, ◌*◌, ◌%◌, ◌^◌, ◌≤◌, ◌<◌}
use mathlib.Core.Path.{◌≡◌, subst}
use native.Mathlib.Nat.{mul-le-mul_right, mod-eq_of_lt}
use native.Mathlib.Numerals.{add-one}
use native.Mathlib.Omega.{arith}
use lib.Count.{count_leading_zeros, leading_top}
use lib.Pow.{pow-add, shl_lt}
use Rattle.score.specs.Logarithm.{highest_one, significand, HighestOne}
use Rattle.score.proofs.Squarings.{Normal}

-- a number whose highest one is at e is normal once it is shifted by the rest of 31
shifted_normal : (n e s : ℕ) → e + s ≡ 31 → 2 ^ e ≤ n → n < 2 ^ suc e → Normal (n * 2 ^ s)
shifted_normal n e s sum low high =
    let sum_high : suc e + s ≡ 32 = omega arith in
    record {
      low = subst (λ (k : ℕ). 2 ^ k ≤ n * 2 ^ s) sum (rw pow-add (mul-le-mul_right (2 ^ s) low));
      high = subst (λ (k : ℕ). n * 2 ^ s < 2 ^ k) sum_high (shl_lt (suc e) s high);
    }

module _ (n : ℕ) (some : 0 < n) (fits : n < 2 ^ 32) where
  -- the zeros and the position make 31, and the highest one stands at the position
  pub position : (count_leading_zeros 32 n + highest_one n ≡ 31) × (2 ^ highest_one n ≤ n) × (n < 2 ^ suc (highest_one n))
  unfolding highest_one
  position =
      let top = leading_top 32 n some fits in
      let at : 31 - count_leading_zeros 32 n ≡ top.0 = omega arith in
      rw at (omega arith, top.2, top.3)

  pub significand_normal : Normal (significand n)
  unfolding significand
  significand_normal = let at = position in shifted_normal n (highest_one n) (31 - highest_one n) (omega arith) at.1 at.2

  -- the code's shift, by the leading zeros, gives the significand
  pub shifted : n * 2 ^ count_leading_zeros 32 n % 2 ^ 64 ≡ significand n
  unfolding significand
  shifted =
      let zeros : count_leading_zeros 32 n ≡ 31 - highest_one n = omega (arith, position) in
      let normal = significand_normal in
      rw zeros (mod-eq_of_lt (omega arith))

pub highest_one_lem : HighestOne
highest_one_lem n some fits = rw add-one ((position n some (omega arith)).1, (position n some (omega arith)).2)
