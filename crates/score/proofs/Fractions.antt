-- Operations on two floats that are whole numbers. The library brings two finite floats to fractions with a common denominator k, ±a × k / k and
-- ±b × k / k, and adds or compares those. A common factor changes neither an order nor a rounded quotient, so the result is that of ±a and ±b.
-- Assumes nothing.
use Prim.Native.Nat.{ℕ, ◌+◌, ◌-◌, ◌*◌, ◌<◌}
use mathlib.Core.Bool.{Bool, true, false, not}
use mathlib.Core.Path.{◌≡◌, refl, sym, ap, ◌∙◌}
use native.Mathlib.Nat.{mul-one, mul_comm, zero-mul, add-mul, mul-sub, mul-pos, mul-lt-mul_of_pos_right, lt_of_mul-lt-mul_right, eq_of_mul-eq-mul_right}
use native.Mathlib.Nat.{zero-lt-suc}
use native.Mathlib.Omega.{arith}
use lib.Dec.{T, ltb, eqb, ltb→lt, lt→ltb, eqb→eq}
use lib.IntN.{ℤ}
use lib.Ieee.{Float, nan, inf, fin, Format, up, down, round, sum, below, level, neg, add, sub, lt, eq}
use lib.Ieee.Exact.{HasValue}
use lib.Ieee.Fits.{down_pos, eq→eqb}
use lib.Ieee.Scale.{round_same}

-- ---- a common factor in a test

-- two tests that imply each other are the same
same_test : (t u : Bool) → (T t → T u) → (T u → T t) → t ≡ u
same_test true true f g = refl
same_test true false f g = absurd (f tt)
same_test false true f g = absurd (g tt)
same_test false false f g = refl

module _ (a b k : ℕ) (positive : 0 < k) where
  less_scaled : ltb (a * k) (b * k) ≡ ltb a b
  less_scaled =
      same_test (ltb (a * k) (b * k)) (ltb a b)
      (λ h. lt→ltb a b (lt_of_mul-lt-mul_right k (ltb→lt (a * k) (b * k) h)))
      (λ h. lt→ltb (a * k) (b * k) (mul-lt-mul_of_pos_right (ltb→lt a b h) positive))

  equal_scaled : eqb (a * k) (b * k) ≡ eqb a b
  equal_scaled =
      same_test (eqb (a * k) (b * k)) (eqb a b)
      (λ h. eq→eqb (eq_of_mul-eq-mul_right k positive a b (eqb→eq (a * k) (b * k) h)))
      (λ h. eq→eqb (ap (λ (x : ℕ). x * k) (eqb→eq a b h)))

-- ---- a common factor in a sum, an order and an equality of fractions

sub_mul : (a b k : ℕ) → (a - b) * k ≡ a * k - b * k
sub_mul a b k = rw (mul_comm (a - b) k, mul_comm a k, mul_comm b k) (mul-sub k a b)

round_scaled : (f : Format) (s : Bool) (c k : ℕ) → 0 < k → round f s (c * k) k ≡ round f s c 1
round_scaled f s c k positive = round_same f s (c * k) k c 1 positive (zero-lt-suc 0) (mul-one (c * k))

sum_scaled : (f : Format) (s t : Bool) (a b k : ℕ) → 0 < k → sum f s (a * k) t (b * k) k ≡ sum f s a t b 1
unfolding sum
sum_scaled f s t a b k positive =
    rw (less_scaled a b k, less_scaled b a k, ← add-mul a b k, ← sub_mul a b k, ← sub_mul b a k)
    (simp round_scaled)

below_scaled : (s t : Bool) (a b k : ℕ) → 0 < k → below s (a * k) t (b * k) ≡ below s a t b
below_scaled false false a b k positive = less_scaled a b k positive
below_scaled false true a b k positive = refl
below_scaled true false a b k positive =
    rw (← add-mul a b k) (ap (λ (z : ℕ). ltb z ((a + b) * k)) (sym (zero-mul k)) ∙ less_scaled 0 (a + b) k positive)
below_scaled true true a b k positive = less_scaled b a k positive

level_scaled : (s t : Bool) (a b k : ℕ) → 0 < k → level s (a * k) t (b * k) ≡ level s a t b
level_scaled s t a b k positive =
    let zero_scaled : eqb (a * k) 0 ≡ eqb a 0 = ap (eqb (a * k)) (sym (zero-mul k)) ∙ equal_scaled a 0 k positive in
    rw (equal_scaled a b k, zero_scaled)

-- ---- an operation at whole numbers

-- m × 2^e is the whole number a: over a common denominator
over : (x a u v : ℕ) → x * 1 ≡ a * u → (x * v ≡ a * (u * v)) × (x * v ≡ a * (v * u))
over x a u v h = (omega (arith, ap (λ (z : ℕ). z * v) h), omega (arith, ap (λ (z : ℕ). z * v) h))

-- an operation that goes by fractions, in which a common factor changes nothing
module _
    {A : Type 0}
    (operation : Float → Float → A)
    (on_fractions : Bool → ℕ → Bool → ℕ → ℕ → A)
    (finite : (s t : Bool) (m n : ℕ) (e d : ℤ) → operation (fin s m e) (fin t n d) ≡ on_fractions s (m * up e * down d) t (n * up d * down e) (down e * down d))
    (scaled : (s t : Bool) (a b k : ℕ) → 0 < k → on_fractions s (a * k) t (b * k) k ≡ on_fractions s a t b 1)
  where
    at_whole : (x y : Float) (s t : Bool) (a b : ℕ) → HasValue x s a 1 → HasValue y t b 1 → operation x y ≡ on_fractions s a t b 1
    at_whole nan y s t a b p q = absurd p
    at_whole (inf u) y s t a b p q = absurd p
    at_whole (fin u m e) nan s t a b p q = absurd q
    at_whole (fin u m e) (inf v) s t a b p q = absurd q
    at_whole (fin u m e) (fin v n d) s t a b p q =
        finite u v m n e d
        ∙ rw (p.0, q.0, (over (m * up e) a (down e) (down d) p.1).0, (over (n * up d) b (down d) (down e) q.1).1)
        (scaled s t a b (down e * down d) (mul-pos (down_pos e) (down_pos d)))

module _ (x y : Float) (s t : Bool) (a b : ℕ) (p : HasValue x s a 1) (q : HasValue y t b 1) where
  pub add_at_whole : (f : Format) → add f x y ≡ sum f s a t b 1
  unfolding add
  add_at_whole f = at_whole (add f) (sum f) (λ s t m n e d. refl) (sum_scaled f) x y s t a b p q

  pub less_at_whole : lt x y ≡ below s a t b
  unfolding lt
  less_at_whole = at_whole lt (λ s a t b k. below s a t b) (λ s t m n e d. refl) below_scaled x y s t a b p q

  pub equal_at_whole : eq x y ≡ level s a t b
  unfolding eq
  equal_at_whole = at_whole eq (λ s a t b k. level s a t b) (λ s t m n e d. refl) level_scaled x y s t a b p q

-- a difference is a sum with the second sign turned
turned : (x : Float) (s : Bool) (a : ℕ) → HasValue x s a 1 → HasValue (neg x) (not s) a 1
unfolding neg
turned nan s a value = value
turned (inf u) s a value = value
turned (fin u m e) s a value = (ap not value.0, value.1)

pub sub_at_whole : (x y : Float) (s t : Bool) (a b : ℕ) → HasValue x s a 1 → HasValue y t b 1 → (f : Format) → sub f x y ≡ sum f s a (not t) b 1
unfolding sub
sub_at_whole x y s t a b p q f = add_at_whole x (neg y) s (not t) a b p (turned y t b q) f
