-- The order of scores: not being less is reflexive and transitive, holds both ways of equal scores alone, and a sum keeps it; a sum that is whole has
-- whole parts, of which one gives the other.
-- Of whole numbers it is the sign of the difference: a < b exactly where a - b is negative (`less_by_sign`). A sum takes the same off on both sides, and
-- two differences that are not negative have a sum that is not. Minus infinity is less than every whole number.
-- Assumes nothing.
use Prim.Native.Nat.{ℕ, zero, suc, ◌-◌, zero-le}
use mathlib.Core.Bool.{true, false, cond, true≢false, false≢true}
use mathlib.Core.Path.{◌≡◌, refl, sym, ap, ◌∙◌}
use lib.Dec.{ltb, leb-suc-suc}
use lib.IntN.{ℤ, pos, negsuc, neg_ℤ, sub_ℕ, ◌+ℤ◌, ◌-ℤ◌, +ℤ_assoc, +ℤ_comm, +ℤ_idl, +ℤ_invr, +ℤ_invl, +ℤ-neg_ℤ_cancel, neg_ℤ-+ℤ, neg_ℤ-neg_ℤ}
use lib.Signed.{lt_z}
use borrow.Author.Tests.{lt-ltb, le-ltb, ltb-false, eqb-true, eqb-false}
use native.Mathlib.Omega.{arith}
use Rattle.score.specs.Scores.{Score, minus_infinity, whole, plus, less_than, equals, same_whole, negative}
use Rattle.score.proofs.Tests.{by_leb}

-- ---- whole numbers

-- a - b of natural numbers is negative exactly where a < b
apart_sign : (a b : ℕ) → negative (sub_ℕ a b) ≡ ltb a b
apart_sign a b = by_leb (suc a) b (λ less. negative (cond less (negsuc (b - suc a)) (pos (a - b))) ≡ less) (λ h. refl) (λ h. refl)

less_by_sign : (a b : ℤ) → lt_z a b ≡ negative (a -ℤ b)
less_by_sign (pos a) (pos zero) = le-ltb a 0 zero-le
less_by_sign (pos a) (pos (suc b)) = sym (apart_sign a (suc b))
less_by_sign (pos a) (negsuc b) = refl
less_by_sign (negsuc a) (pos zero) = sym (apart_sign 0 (suc a) ∙ lt-ltb 0 (suc a) (omega arith))
less_by_sign (negsuc a) (pos (suc b)) = refl
less_by_sign (negsuc a) (negsuc b) = sym (apart_sign (suc b) (suc a) ∙ leb-suc-suc (suc b) a)

-- a sum of two numbers that are not negative
sum_sign : (x y : ℤ) → negative x ≡ false → negative y ≡ false → negative (x +ℤ y) ≡ false
sum_sign (pos a) (pos b) x_sign y_sign = refl
sum_sign (pos a) (negsuc b) x_sign y_sign = absurd (true≢false y_sign)
sum_sign (negsuc a) y x_sign y_sign = absurd (true≢false x_sign)

-- (a - b) + (b - c) = a - c
join_differences : (a b c : ℤ) → (a -ℤ b) +ℤ (b -ℤ c) ≡ a -ℤ c
join_differences a b c =
    +ℤ_assoc a (neg_ℤ b) (b -ℤ c)
    ∙ ap (λ (x : ℤ). a +ℤ x) (sym (+ℤ_assoc (neg_ℤ b) b (neg_ℤ c)) ∙ ap (λ (x : ℤ). x +ℤ neg_ℤ c) (+ℤ_invl b) ∙ +ℤ_idl (neg_ℤ c))

-- (c + a) - c = a
second_part : (c a : ℤ) → (c +ℤ a) -ℤ c ≡ a
second_part c a = ap (λ (x : ℤ). x -ℤ c) (+ℤ_comm c a) ∙ +ℤ-neg_ℤ_cancel a c

-- (c + a) - (c + b) = a - b
cancel_sum : (c a b : ℤ) → (c +ℤ a) -ℤ (c +ℤ b) ≡ a -ℤ b
cancel_sum c a b =
    ap (λ (x : ℤ). (c +ℤ a) +ℤ x) (neg_ℤ-+ℤ c b)
    ∙ sym (+ℤ_assoc (c +ℤ a) (neg_ℤ c) (neg_ℤ b))
    ∙ ap (λ (x : ℤ). x +ℤ neg_ℤ b) (second_part c a)

-- b - a is a - b with the other sign
turn_difference : (a b : ℤ) → neg_ℤ (a -ℤ b) ≡ b -ℤ a
turn_difference a b = neg_ℤ-+ℤ a (neg_ℤ b) ∙ ap (λ (x : ℤ). neg_ℤ a +ℤ x) (neg_ℤ-neg_ℤ b) ∙ +ℤ_comm (neg_ℤ a) b

turned_sign : (x : ℤ) → negative x ≡ true → negative (neg_ℤ x) ≡ false
turned_sign (pos n) sign = absurd (false≢true sign)
turned_sign (negsuc n) sign = refl

same_whole_lem : (a b : ℤ) → same_whole a b ≡ true → a ≡ b
same_whole_lem (pos a) (pos b) same = ap pos (eqb-true a b same)
same_whole_lem (pos a) (negsuc b) same = absurd (false≢true same)
same_whole_lem (negsuc a) (pos b) same = absurd (false≢true same)
same_whole_lem (negsuc a) (negsuc b) same = ap negsuc (eqb-true a b same)

-- two whole numbers of which neither is less are the same
neither_less : (a b : ℤ) → lt_z a b ≡ false → lt_z b a ≡ false → a ≡ b
neither_less (pos a) (pos b) ab ba = ap pos (omega (arith, ltb-false a b ab, ltb-false b a ba))
neither_less (pos a) (negsuc b) ab ba = absurd (true≢false ba)
neither_less (negsuc a) (pos b) ab ba = absurd (true≢false ab)
neither_less (negsuc a) (negsuc b) ab ba = ap negsuc (omega (arith, ltb-false b a ab, ltb-false a b ba))

-- ---- scores

-- the first score is not less than the second
abbrev pub AtLeast : Score → Score → Type 0
AtLeast s t = less_than s t ≡ false

pub at_least_self : (s : Score) → AtLeast s s
unfolding less_than
at_least_self minus_infinity = refl
at_least_self (whole a) = less_by_sign a a ∙ ap negative (+ℤ_invr a)

pub at_least_trans : (r s t : Score) → AtLeast r s → AtLeast s t → AtLeast r t
unfolding less_than
at_least_trans minus_infinity s minus_infinity rs st = refl
at_least_trans minus_infinity minus_infinity (whole c) rs st = st
at_least_trans minus_infinity (whole b) (whole c) rs st = absurd (true≢false rs)
at_least_trans (whole a) s minus_infinity rs st = refl
at_least_trans (whole a) minus_infinity (whole c) rs st = absurd (true≢false st)
at_least_trans (whole a) (whole b) (whole c) rs st =
    less_by_sign a c
    ∙ ap negative (sym (join_differences a b c))
    ∙ sum_sign (a -ℤ b) (b -ℤ c) (sym (less_by_sign a b) ∙ rs) (sym (less_by_sign b c) ∙ st)

pub at_least_plus : (c s t : Score) → AtLeast s t → AtLeast (plus c s) (plus c t)
unfolding less_than plus
at_least_plus minus_infinity s t st = refl
at_least_plus (whole c) minus_infinity minus_infinity st = refl
at_least_plus (whole c) (whole a) minus_infinity st = refl
at_least_plus (whole c) minus_infinity (whole b) st = absurd (true≢false st)
at_least_plus (whole c) (whole a) (whole b) st =
    less_by_sign (c +ℤ a) (c +ℤ b) ∙ ap negative (cancel_sum c a b) ∙ sym (less_by_sign a b) ∙ st

pub less_at_least : (s t : Score) → less_than s t ≡ true → AtLeast t s
unfolding less_than
less_at_least minus_infinity minus_infinity less = absurd (false≢true less)
less_at_least minus_infinity (whole b) less = refl
less_at_least (whole a) minus_infinity less = absurd (false≢true less)
less_at_least (whole a) (whole b) less =
    less_by_sign b a ∙ ap negative (sym (turn_difference a b)) ∙ turned_sign (a -ℤ b) (sym (less_by_sign a b) ∙ less)

pub at_least_both : (s t : Score) → AtLeast s t → AtLeast t s → s ≡ t
unfolding less_than
at_least_both minus_infinity minus_infinity st ts = refl
at_least_both minus_infinity (whole b) st ts = absurd (true≢false st)
at_least_both (whole a) minus_infinity st ts = absurd (true≢false ts)
at_least_both (whole a) (whole b) st ts = ap whole (neither_less a b st ts)

-- ---- equal scores

pub equal_scores : (s t : Score) → equals s t ≡ true → s ≡ t
unfolding equals
equal_scores minus_infinity minus_infinity same = refl
equal_scores minus_infinity (whole b) same = absurd (false≢true same)
equal_scores (whole a) minus_infinity same = absurd (false≢true same)
equal_scores (whole a) (whole b) same = ap whole (same_whole_lem a b same)

pub equal_itself : (s : Score) → equals s s ≡ false → ⊥
unfolding equals
equal_itself minus_infinity e = true≢false e
equal_itself (whole (pos a)) e = eqb-false a a e refl
equal_itself (whole (negsuc a)) e = eqb-false a a e refl

-- where two sums with one first part are the same whole number, the second parts are the same whole number
pub second_parts : (c s t : Score) (z : ℤ) → plus c s ≡ whole z → plus c t ≡ whole z → (y : ℤ) × (s ≡ whole y) × (t ≡ whole y)
unfolding plus
second_parts minus_infinity s t z cs ct = let none : ◌≡◌ {A = ℕ} 0 1 = cc in absurd (omega arith)
second_parts (whole c) minus_infinity t z cs ct = let none : ◌≡◌ {A = ℕ} 0 1 = cc in absurd (omega arith)
second_parts (whole c) (whole a) minus_infinity z cs ct = let none : ◌≡◌ {A = ℕ} 0 1 = cc in absurd (omega arith)
second_parts (whole c) (whole a) (whole b) z cs ct =
    let same : c +ℤ a ≡ c +ℤ b = cc in
    (a, refl, ap whole (sym (second_part c b) ∙ ap (λ (x : ℤ). x -ℤ c) (sym same) ∙ second_part c a))
