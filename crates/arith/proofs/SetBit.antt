-- The test of a bit, and its store, as the code writes them. The store is the disjunction with 1 shifted by n, which loses
-- nothing, since n < 64. It adds what the two do not share, and they share bit n where x has it. Assumes nothing.
use mathlib.Core.Path.{◌≡◌, refl, sym, ap, ◌∙◌}
use mathlib.Core.Bool.{Bool, true, false, cond}
use Prim.Native.Nat.{ℕ, ◌+◌, ◌-◌, ◌*◌, ◌/◌, ◌%◌, ◌^◌, ◌<◌}
use native.Mathlib.Nat.{one-mul, zero-mul, mod-eq_of_lt}
use native.Mathlib.Omega.{arith}
use borrow.Author.Tests.{eqb-true, eqb-false}
use lib.Pow.{pow-lt, pow-add}
use Rattle.std.specs.Int.Bits.{bit_or, bit_and, or_add_and}
use lib.Dec.{eqb}
use Rattle.std.proofs.lemmas.Nat.{and_mask}
use Rattle.std.proofs.lemmas.Nat.Bits.{and_high}
use Rattle.arith.specs.Bits.{bit_of, has_bit, with_bit}

-- what x shares with 2 ^ n
shared : (x n : ℕ) → bit_and x (2 ^ n) ≡ bit_of x n * 2 ^ n
shared x n =
    let one : 2 ^ (1 + n) ≡ 2 * 2 ^ n = pow-add 2 1 n in
    let place : 2 ^ (1 + n) - 2 ^ n ≡ 2 ^ n = omega arith in
    ap (bit_and x) (sym place) ∙ and_high x 1 n

by_bit : (x n : ℕ) (b : Bool) → has_bit x n ≡ b → bit_or x (2 ^ n) ≡ cond b x (x + 2 ^ n)
unfolding has_bit
by_bit x n true e =
    let is_one : bit_of x n ≡ 1 = eqb-true _ _ e in
    let common : bit_and x (2 ^ n) ≡ 2 ^ n = shared x n ∙ rw is_one (one-mul (2 ^ n)) in
    omega (arith, or_add_and x (2 ^ n), common)
by_bit x n false e =
    let not_one : bit_of x n ≡ 1 → ⊥ = eqb-false _ _ e in
    let is_zero : bit_of x n ≡ 0 = omega arith in
    let common : bit_and x (2 ^ n) ≡ 0 = shared x n ∙ rw is_zero (zero-mul (2 ^ n)) in
    omega (arith, or_add_and x (2 ^ n), common)

pub or_sets : (x n : ℕ) → n < 64 → bit_or x (1 * 2 ^ n % 2 ^ 64) ≡ with_bit x n
unfolding with_bit
or_sets x n inside =
    let place : 1 * 2 ^ n % 2 ^ 64 ≡ 2 ^ n = rw (one-mul, mod-eq_of_lt (pow-lt inside)) in
    ap (bit_or x) place ∙ by_bit x n (has_bit x n) refl

pub bit_tested : (x n : ℕ) → eqb (bit_and (x / 2 ^ n) 1) 1 ≡ has_bit x n
unfolding has_bit
bit_tested x n = ap (λ (b : ℕ). eqb b 1) (and_mask (x / 2 ^ n) 1)
