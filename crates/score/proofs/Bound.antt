-- The bound of the logarithm, 2^L(n) ≤ n^(2^24) < 2^(L(n)+2).
-- Write M for 2^31. One squaring rounds m × m / M down, to 2^bit × m', and m' is at least M: so 2^bit × m' × M ≤ m × m ≤ 2^bit × m' × (M + 1).
-- Put together over k squarings, with N = 2^k, r their bits and l the last significand: 2^r × l × M^N ≤ m^N × M, and
-- m^N × (M + 1) ≤ 2^r × l × (M + 1)^N. These two are one lemma, over the orders ≤ and ≥. Since l is at least M, the first gives 2^r × M^N ≤ m^N.
-- Since l is below 2 × M, and (M + 1)^N at most 2 × M^N by Bernoulli's inequality, the second gives m^N < 2^r × M^N × 4: the two units of the claim.
-- The first m is n × 2^(31-e), and M is 2^e × 2^(31-e); without the common power of 2^(31-e), this is 2^(e×N+r) ≤ n^N < 2^(e×N+r) × 4.
-- The number of squarings is a variable until the last line: M^(2^24) is too large to compute.
-- Assumes nothing.
use Prim.Native.Nat.{ℕ, zero, suc, ◌+◌, ◌-◌, ◌*◌, ◌^◌, ◌≤◌, ◌<◌}
use mathlib.Core.Path.{◌≡◌}
use native.Mathlib.Nat.{one-mul, mul-pos, mul-le-mul_left, mul-le-mul_right, le_of_mul-le-mul_right, lt_of_mul-lt-mul_right, pow-le-pow_left, one-le-pow}
use native.Mathlib.Nat.{le_refl, le_trans}
use native.Mathlib.Omega.{arith}
use lib.Pow.{pow_pos, pow-add}
use Rattle.score.specs.Logarithm.{highest_one, significand, next_bit, next_significand, bits_of, log_of, LogarithmBound}
use Rattle.score.proofs.HighestOne.{position, significand_normal}
use Rattle.score.proofs.Powers.{pow_one, pow_of_product, pow_of_power, pow_of_square, pow_next}
use Rattle.score.proofs.Squarings.{Normal, by_outcome, square_low, next_normal}

-- ---- one squaring, and many

squaring_below : (m : ℕ) → 2 ^ next_bit m * next_significand m * 2 ^ 31 ≤ m * m
squaring_below m = by_outcome m (λ bit next. 2 ^ bit * next * 2 ^ 31 ≤ m * m) (λ h. omega arith) (λ h. omega arith)

squaring_above : (m : ℕ) → Normal m → m * m ≤ 2 ^ next_bit m * next_significand m * suc (2 ^ 31)
squaring_above m normal =
    let low = square_low m normal in
    by_outcome m (λ bit next. m * m ≤ 2 ^ bit * next * suc (2 ^ 31)) (λ h. omega arith) (λ h. omega arith)

-- the significand after so many squarings
significand_after : ℕ → ℕ → ℕ
significand_after zero m = m
significand_after (suc k) m = significand_after k (next_significand m)

after_normal : (k m : ℕ) → Normal m → Normal (significand_after k m)
unfolding significand_after
after_normal zero m normal = normal
after_normal (suc k) m normal = after_normal k (next_significand m) (next_normal m normal)

-- an order that products and powers keep: ≤ is one, and ≥ too
record Order (R : ℕ → ℕ → Type 0) : Type 0 where
  reflexive : (x : ℕ) → R x x
  transitive : {x y z : ℕ} → R x y → R y z → R x z
  scaled : {x y : ℕ} (a : ℕ) → R x y → R (x * a) (y * a)
  powered : {x y : ℕ} (n : ℕ) → R x y → R (x ^ n) (y ^ n)

at_most : Order ◌≤◌
at_most =
    record {
      reflexive = le_refl;
      transitive = λ {x} {y} {z} h i. le_trans h i;
      scaled = λ {x} {y} a h. mul-le-mul_right a h;
      powered = λ {x} {y} n h. pow-le-pow_left h n;
    }

at_least : Order (λ x y. y ≤ x)
at_least =
    record {
      reflexive = le_refl;
      transitive = λ {x} {y} {z} h i. le_trans i h;
      scaled = λ {x} {y} a h. mul-le-mul_right a h;
      powered = λ {x} {y} n h. pow-le-pow_left h n;
    }

module _
    (R : ℕ → ℕ → Type 0)
    (order : Order R)
    (c : ℕ)
    (squaring : (m : ℕ) → Normal m → R (2 ^ next_bit m * next_significand m * c) (m * m))
  where
    -- a first squaring and the rest, each a power already: b = (2^bit)^N, w = c^N, x = m'^N, y = (m × m)^N
    joined : (b r l w x y : ℕ) → R (b * x * w) y → R (r * l * w) (x * c) → R (b * r * l * (w * w)) (y * c)
    joined b r l w x y first rest =
        let left : b * r * l * (w * w) ≡ r * l * w * (b * w) = omega arith in
        let middle : x * c * (b * w) ≡ b * x * w * c = omega arith in
        rw left (order.transitive (order.scaled (b * w) rest) (rw middle (order.scaled c first)))

    squarings : (k m : ℕ) → Normal m → R (2 ^ bits_of k m * significand_after k m * c ^ (2 ^ k)) (m ^ (2 ^ k) * c)
    unfolding bits_of significand_after
    squarings zero m normal = rw (pow_one c, pow_one m, one-mul m) (order.reflexive (m * c))
    squarings (suc k) m normal =
        let first = rw (pow_of_product _ c, pow_of_product _ (next_significand m)) at (order.powered (2 ^ k) (squaring m normal)) in
        let rest = squarings k (next_significand m) (next_normal m normal) in
        rw (pow-add, ← pow_of_power, pow_of_square c k, pow_of_product c c, pow_of_square m k) (joined _ _ _ _ _ _ first rest)

-- ---- the power of a normal m: 2^r × M^N ≤ m^N < 2^r × M^N × 4

-- with R = 2^r, W = M^N, x = m^N and G = (M + 1)^N
without_last_below : (R W x l M : ℕ) → 0 < M → M ≤ l → R * l * W ≤ x * M → R * W ≤ x
without_last_below R W x l M positive low h = le_of_mul-le-mul_right (omega (arith, mul-le-mul_left (R * W) low)) positive

without_last_above : (R W x l M G : ℕ) → 0 < R * W → l < 2 * M → G ≤ 2 * W → x * suc M ≤ R * l * G → x < R * W * 4
without_last_above R W x l M G positive high twice h =
    lt_of_mul-lt-mul_right (suc M) (omega (arith, mul-le-mul_left (R * l) twice, mul-le-mul_left (2 * (R * W)) high))

power_of_normal :
    (k m : ℕ)
    → 2 * 2 ^ k ≤ 2 ^ 31
    → Normal m
    → (2 ^ bits_of k m * (2 ^ 31) ^ (2 ^ k) ≤ m ^ (2 ^ k)) × (m ^ (2 ^ k) < 2 ^ bits_of k m * (2 ^ 31) ^ (2 ^ k) * 4)
power_of_normal k m few normal =
    let last = after_normal k m normal in (
      without_last_below _ _ _ _ _ (pow_pos 31) last.low
          (squarings ◌≤◌ at_most (2 ^ 31) (λ m m_normal. squaring_below m) k m normal),
      without_last_above _ _ _ _ _ _ (mul-pos (pow_pos (bits_of k m)) (one-le-pow (2 ^ k) (2 ^ 31) (pow_pos 31))) last.high
          (pow_next (2 ^ 31) (2 ^ k) (omega arith))
          (squarings (λ x y. y ≤ x) at_least (suc (2 ^ 31)) squaring_above k m normal),
    )

-- ---- the power of n, at any number k of squarings with 2^(k+1) at most M

abbrev Bound : ℕ → ℕ → ℕ → Type 0
Bound N n log = (2 ^ log ≤ n ^ N) × (n ^ N < 2 ^ (log + 2))

-- with M = 2^e × 2^s and m = n × 2^s, the powers have (2^s)^N in common
unshifted :
    (N n e s r M : ℕ)
    → M ≡ 2 ^ e * 2 ^ s
    → (2 ^ r * M ^ N ≤ (n * 2 ^ s) ^ N) × ((n * 2 ^ s) ^ N < 2 ^ r * M ^ N * 4)
    → Bound N n (e * N + r)
unshifted N n e s r M one power =
    rw (pow-add 2 (e * N + r) 2, pow-add 2 (e * N) r, ← pow_of_power 2 e N)
    (cancelled ((2 ^ e) ^ N) (2 ^ r) ((2 ^ s) ^ N) (n ^ N) (one-le-pow N (2 ^ s) (pow_pos s))
    (rw (one, pow_of_product (2 ^ e), pow_of_product n) at power))
  where
    cancelled : (E R S X : ℕ) → 0 < S → (R * (E * S) ≤ X * S) × (X * S < R * (E * S) * 4) → (E * R ≤ X) × (X < E * R * 4)
    cancelled E R S X positive power =
        (le_of_mul-le-mul_right {k = S} (omega arith) positive, lt_of_mul-lt-mul_right S (omega arith))

bound_after : (k n : ℕ) → 0 < n → n < 2 ^ 32 → 2 * 2 ^ k ≤ 2 ^ 31 → Bound (2 ^ k) n (highest_one n * 2 ^ k + bits_of k (significand n))
unfolding significand
bound_after k n some fits few =
    let e : ℕ = highest_one n in
    let sum : e + (31 - e) ≡ 31 = omega (arith, position n some fits) in
    let one : 2 ^ 31 ≡ 2 ^ e * 2 ^ (31 - e) = rw (← pow-add, sum) in
    unshifted (2 ^ k) n e (31 - e) (bits_of k (significand n)) (2 ^ 31) one
    (power_of_normal k (significand n) few (significand_normal n some fits))

pub logarithm_bound : LogarithmBound
unfolding log_of
logarithm_bound n some fits = bound_after 24 n some (omega arith) (omega arith)
