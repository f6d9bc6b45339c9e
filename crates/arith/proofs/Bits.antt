-- The claims of `specs/Bits.antt`. Setting a bit that is 0 adds 2 ^ n. That sum leaves the remainder by 2 ^ k for every k up to n, since
-- 2 ^ n is a multiple of 2 ^ k, and the quotient by 2 ^ k for every k above n, since the even quotient x / 2 ^ n becomes odd and no
-- more. Each other claim follows from these two and from the bit's own value. Assumes nothing.
use mathlib.Core.Path.{◌≡◌, refl, sym, ap, ◌∙◌}
use mathlib.Core.Logic.{◌≢◌}
use mathlib.Core.Bool.{Bool, true, false, cond}
use Prim.Native.Nat.{ℕ, ◌+◌, ◌-◌, ◌*◌, ◌/◌, ◌%◌, ◌^◌, ◌<◌}
use native.Mathlib.Nat.{add-div_right, add-mul-mod_self_right, div-eq_of_lt, div-lt_iff_lt-mul, one-mul, zero-div}
use native.Mathlib.Decide.{dec_lt, ℕ_discrete}
use native.Mathlib.Omega.{arith}
use borrow.Author.Tests.{eq-eqb, eqb-true, eqb-false}
use lib.Pow.{pow_pos, pow-add, shr-shr, field}
use lib.Dec.{eqb}
use Rattle.arith.specs.Bits.{bit_of, has_bit, with_bit}
use Rattle.arith.specs.Bits.{SetsItsBit, KeepsOtherBits, KeepsSetBits, KeepsLowBits, KeepsHighBits}
use Rattle.arith.specs.Bits.{IsNeverZero, StaysWithinWidth, ChangesNothingWhereSet}

-- a bit that is not 1 is 0
clear : (x n : ℕ) → has_bit x n ≡ false → bit_of x n ≡ 0
unfolding has_bit
clear x n e = let h : bit_of x n ≡ 1 → ⊥ = eqb-false _ _ e in omega arith

-- what holds of x where its bit is 1, and of x + 2 ^ n where it is 0, holds of x with the bit set
module _ (P : ℕ → Type 0) (x n : ℕ) (set : has_bit x n ≡ true → P x) (unset : bit_of x n ≡ 0 → P (x + 2 ^ n)) where
  by_value : (b : Bool) → has_bit x n ≡ b → P (cond b x (x + 2 ^ n))
  by_value true e = set e
  by_value false e = unset (clear x n e)

  by_bit : P (with_bit x n)
  unfolding with_bit
  by_bit = by_value (has_bit x n) refl

pub changes_nothing_where_set : ChangesNothingWhereSet
unfolding with_bit
changes_nothing_where_set x n e = rw e

-- x / 2 ^ n is even, and its successor is odd
pub sets_its_bit : SetsItsBit
unfolding has_bit
sets_its_bit x n =
    by_bit (λ y. has_bit y n ≡ true) x n (λ e. e)
    (λ z. eq-eqb (bit_of (x + 2 ^ n) n) 1 (omega (arith, add-div_right x (pow_pos n))))

pub keeps_low_bits : KeepsLowBits
keeps_low_bits x n k h =
    let e : n - k + k ≡ n = omega arith in
    let multiple : 2 ^ n ≡ 2 ^ (n - k) * 2 ^ k = ap (λ (m : ℕ). 2 ^ m) (sym e) ∙ pow-add 2 (n - k) k in
    by_bit (λ y. y % 2 ^ k ≡ x % 2 ^ k) x n (λ _. refl)
    (λ _. rw multiple (add-mul-mod_self_right x (2 ^ (n - k)) (2 ^ k)))

-- a quotient by 2 ^ k, with n < k, is one by 2 ^ n, then by 2, then by the rest
quotient_above : (y n k : ℕ) → n < k → y / 2 ^ k ≡ y / 2 ^ n / 2 / 2 ^ (k - (n + 1))
quotient_above y n k h =
    let e : n + 1 + (k - (n + 1)) ≡ k = omega arith in
    sym (ap (λ (q : ℕ). q / 2 ^ (k - (n + 1))) (shr-shr y n 1) ∙ shr-shr y (n + 1) (k - (n + 1)) ∙ ap (λ (m : ℕ). y / 2 ^ m) e)

pub keeps_high_bits : KeepsHighBits
keeps_high_bits x n k h =
    by_bit (λ y. y / 2 ^ k ≡ x / 2 ^ k) x n (λ _. refl)
    (λ z.
    let half : (x + 2 ^ n) / 2 ^ n / 2 ≡ x / 2 ^ n / 2 = omega (arith, add-div_right x (pow_pos n)) in
    quotient_above (x + 2 ^ n) n k h ∙ ap (λ (q : ℕ). q / 2 ^ (k - (n + 1))) half ∙ sym (quotient_above x n k h))

-- bit m is the highest of the 1 + m low bits, or the lowest of those from m on
keeps_bit : (x n m : ℕ) → m ≢ n → bit_of (with_bit x n) m ≡ bit_of x m
keeps_bit x n m other =
    elim (dec_lt m n) [
      | yes below ↦
          sym (field (with_bit x n) 1 m) ∙ ap (λ (r : ℕ). r / 2 ^ m) (keeps_low_bits x n (1 + m) (omega arith)) ∙ field x 1 m
      | no above ↦ ap (λ (q : ℕ). q % 2) (keeps_high_bits x n m (omega arith))
    ]

pub keeps_other_bits : KeepsOtherBits
unfolding has_bit
keeps_other_bits x n m other = ap (λ (b : ℕ). eqb b 1) (keeps_bit x n m other)

pub keeps_set_bits : KeepsSetBits
keeps_set_bits x n m e =
    elim (ℕ_discrete m n) [
      | yes same ↦ rw same (sets_its_bit x n)
      | no other ↦ keeps_other_bits x n m other ∙ e
    ]

-- 0 has no bit that is 1
pub is_never_zero : IsNeverZero
unfolding has_bit
is_never_zero x n e =
    let one : bit_of 0 n ≡ 1 = eqb-true _ _ (rw e at (sets_its_bit x n)) in
    omega (arith, zero-div (2 ^ n))

pub stays_within_width : StaysWithinWidth
stays_within_width w x n hx h =
    let none : with_bit x n / 2 ^ w ≡ 0 = keeps_high_bits x n w h ∙ div-eq_of_lt hx in
    let below : with_bit x n / 2 ^ w < 1 = omega arith in
    rw one-mul at ((div-lt_iff_lt-mul (pow_pos w)).0 below)
