-- Laws of powers that the bound of the logarithm needs, at variable exponents: no power is computed. The last is Bernoulli's inequality,
-- (1 - 1/D)^j ≥ 1 - j/D, in natural numbers, and from it that (d + 1)^j is at most twice d^j while 2 × j is at most d + 1.
-- Assumes nothing.
use Prim.Native.Nat.{ℕ, zero, suc, ◌+◌, ◌-◌, ◌*◌, ◌^◌, ◌≤◌}
use mathlib.Core.Path.{◌≡◌, sym}
use native.Mathlib.Nat.{mul-le-mul_left, mul-le-mul_right, le_of_mul-le-mul_right, one-mul, pow-zero, pow-suc, two-pow-succ, zero-lt-suc}
use native.Mathlib.Omega.{arith}
use lib.Pow.{pow-add}

pub pow_one : (x : ℕ) → x ^ 1 ≡ x
pow_one x = rw (pow-suc x 0, pow-zero x) (one-mul x)

pub pow_of_product : (x y n : ℕ) → (x * y) ^ n ≡ x ^ n * y ^ n
pow_of_product x y zero = simp pow-zero
pow_of_product x y (suc n) =
    rw (pow-suc (x * y) n, pow-suc x n, pow-suc y n, pow_of_product x y n) (regrouped (x ^ n) (y ^ n))
  where
    regrouped : (p q : ℕ) → p * q * (x * y) ≡ p * x * (q * y)
    regrouped p q = omega arith

pub pow_of_power : (x a n : ℕ) → (x ^ a) ^ n ≡ x ^ (a * n)
pow_of_power x a zero = let none : a * zero ≡ zero = omega arith in simp (none, pow-zero)
pow_of_power x a (suc n) =
    let more : a * suc n ≡ a * n + a = omega arith in
    rw (pow-suc, pow_of_power x a n, more, pow-add x (a * n) a)

-- squaring doubles the exponent
pub pow_of_square : (x k : ℕ) → x ^ (2 ^ suc k) ≡ (x * x) ^ (2 ^ k)
pow_of_square x k = rw (two-pow-succ k, pow-add x (2 ^ k) (2 ^ k)) (sym (pow_of_product x x (2 ^ k)))

-- with D = d + 1
bernoulli : (d j : ℕ) → suc d ^ j * (suc d - j) ≤ d ^ j * suc d
bernoulli d zero = rw (pow-zero, pow-zero) (omega arith)
bernoulli d (suc j) =
    let rest : suc d - suc j ≡ suc d - j - 1 = omega arith in
    rw (pow-suc (suc d) j, pow-suc d j, rest) (step (suc d ^ j) (d ^ j) (suc d - j) (omega arith) (bernoulli d j))
  where
    step : (p q rest : ℕ) → rest ≤ suc d → p * rest ≤ q * suc d → p * suc d * (rest - 1) ≤ q * d * suc d
    step p q zero few h = omega arith
    step p q (suc rest) few h =
        let less : suc rest - 1 ≡ rest = omega arith in
        let few' : rest ≤ d = omega arith in
        rw less (omega (arith, mul-le-mul_left p few', mul-le-mul_right d h))

pub pow_next : (d j : ℕ) → 2 * j ≤ suc d → suc d ^ j ≤ 2 * d ^ j
pow_next d j small =
    le_of_mul-le-mul_right
    (go (suc d ^ j) (d ^ j) (suc d - j) (omega arith) (bernoulli d j))
    (zero-lt-suc d)
  where
    go : (p q rest : ℕ) → suc d ≤ 2 * rest → p * rest ≤ q * suc d → p * suc d ≤ 2 * q * suc d
    go p q rest h b = omega (arith, mul-le-mul_left p h)
