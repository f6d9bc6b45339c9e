-- `ShortestAtTotalZero`: at a total of 0 the first word of a position is chosen, with NaN for its score. `NotFiniteAtTotalZero`: no score is finite then.
-- Minus infinity less minus infinity is NaN, and so is a sum with it; no comparison with NaN holds, so nothing takes the place of the first edge. Where no
-- word starts, 0 less minus infinity is plus infinity, and a sum with it is plus infinity or NaN.
-- Assumes nothing.
use Prim.Native.Nat.{ℕ, zero, suc, ◌+◌, ◌≤◌, ◌<◌}
use mathlib.Core.Bool.{false}
use mathlib.Core.List.Memᴰ
use mathlib.Core.List.{List, [], ◌∷◌, map, nil≢cons, Memᴰ}
use mathlib.Core.Logic.{◌⊎◌, inl, inr, ⊎_elim}
use mathlib.Core.Path.{◌≡◌, refl, sym, ap, ◌∙◌, subst}
use native.Mathlib.Nat.{le_of_suc-le-suc}
use native.Mathlib.Omega.{arith}
use lib.IntN.{pos}
use lib.Ieee.{Float, nan, inf}
use lib.ListN.{length, get_or}
use Rattle.score.specs.Logarithm.{L, log_float}
use Rattle.score.proofs.Undefined.{nan_laws, minus_infinity_laws, plus_infinity_laws}
use Rattle.book.specs.Prefixes.{Edge}
use Rattle.route.specs.Route.{Best, no_edge, best_edge, zero_float, step_score, chosen, score_at, choose, settled, route_of}
use Rattle.route.specs.Slices.{nowhere}
use Rattle.route.proofs.Choices.{score_at_start}
use Rattle.best_route.specs.Paths.{Word, edge_of, edges_of}
use Rattle.best_route.specs.Claims.{Rising, ShortestAtTotalZero}
use Rattle.best_route.specs.Ties.{Finite, NotFiniteAtTotalZero}

-- a step whose score is NaN
abbrev undefined_to : ℕ → Best
undefined_to end = record { score = nan; end = end }

-- "a NaN first edge stays"
nan_stays : (log_total : Float) (rest : List Best) (next end : ℕ) (es : List Edge)
    → choose log_total rest next es (best_edge (undefined_to end)) ≡ best_edge (undefined_to end)
unfolding choose
nan_stays log_total rest next end [] = refl
nan_stays log_total rest next end (e ∷ es) =
    let score : Float = step_score e.logarithm log_total (score_at rest next e.end) in
    let stays : chosen (best_edge (undefined_to end)) (record { score = score; end = e.end }) ≡ best_edge (undefined_to end) =
    rw (nan_laws.less_left score, nan_laws.equal_right score) in
    ap (choose log_total rest next es) stays ∙ nan_stays log_total rest next end es

-- L(0) - L(0) + score
zero_step : (score : Float) → step_score (log_float 0) (log_float 0) score ≡ nan
unfolding log_float L
zero_step score = rw minus_infinity_laws.from_itself (nan_laws.sum_left score)

-- a position where a word of frequency 0 starts first
first_chosen : (rest : List Best) (next : ℕ) (first : Word) (others : List Word) → first.frequency ≡ 0
    → settled (log_float 0) rest next (choose (log_float 0) rest next (map edge_of (first ∷ others)) no_edge) ≡ undefined_to first.end
unfolding choose
first_chosen rest next first others none =
    ap (settled (log_float 0) rest next)
    (ap
    (λ (s : Float). choose (log_float 0) rest next (map edge_of others) (best_edge (record { score = s; end = first.end })))
    (ap (λ (f : ℕ). step_score (log_float f) (log_float 0) (score_at rest next first.end)) none ∙ zero_step (score_at rest next first.end))
    ∙ nan_stays (log_float 0) rest next first.end (map edge_of others))

first_at : (at : ℕ) (rows : List (List Word)) (k : ℕ) (first : Word) (others : List Word)
    → first.frequency ≡ 0
    → get_or rows k [] ≡ first ∷ others
    → get_or (route_of (log_float 0) at (edges_of rows)) k nowhere ≡ undefined_to first.end
unfolding route_of
first_at at [] k first others none here = absurd (nil≢cons here)
first_at at (row ∷ rows) zero first others none here =
    let rest : List Best = route_of (log_float 0) (at + 1) (edges_of rows) in
    ap (λ (r : List Word). settled (log_float 0) rest (at + 1) (choose (log_float 0) rest (at + 1) (map edge_of r) no_edge)) here
    ∙ first_chosen rest (at + 1) first others none
first_at at (row ∷ rows) (suc k) first others none here = first_at (at + 1) rows k first others none here

-- with ends rising the first word is the shortest
first_shortest : (first : Word) (others : List Word) → Rising (first ∷ others) → (w : Word) → Memᴰ w (first ∷ others) → first.end ≤ w.end
first_shortest first others rising w m =
    ⊎_elim (λ same. rw same (omega arith)) (λ later. omega (arith, rising.0 w later)) (Memᴰ.cases_cons m)

pub shortest_at_total_zero : ShortestAtTotalZero
shortest_at_total_zero at rows none k first others here rising = (
  first_at at rows k first others (none k first (subst (Memᴰ first) (sym here) (Memᴰ.head refl))) here,
  first_shortest first others rising,
)

-- ---- no score is finite

-- NaN or plus infinity
abbrev Beyond : Float → Type 0
Beyond x = (x ≡ nan) ⊎ (x ≡ inf false)

beyond_finite : (x : Float) → Beyond x → Finite x → ⊥
beyond_finite x (inl e) finite = subst Finite e finite
beyond_finite x (inr e) finite = subst Finite e finite

-- 0 - L(0) + score
lone_beyond : (score : Float) → (score ≡ zero_float) ⊎ Beyond score → Beyond (step_score zero_float (log_float 0) score)
unfolding log_float L
lone_beyond score (inl e) = inr (rw (e, minus_infinity_laws.from_whole (pos 0) (omega arith)) (plus_infinity_laws.plus_whole (pos 0) (omega arith)))
lone_beyond score (inr (inl e)) = inl (rw (e, minus_infinity_laws.from_whole (pos 0) (omega arith)) plus_infinity_laws.plus_nan)
lone_beyond score (inr (inr e)) = inr (rw (e, minus_infinity_laws.from_whole (pos 0) (omega arith)) plus_infinity_laws.plus_itself)

beyond_at : (at : ℕ) (rows : List (List Word))
    → ((k : ℕ) (w : Word) → Memᴰ w (get_or rows k []) → w.frequency ≡ 0)
    → (k : ℕ) → k < length rows
    → Beyond (get_or (route_of (log_float 0) at (edges_of rows)) k nowhere).score
unfolding route_of choose
beyond_at at [] none k within = absurd (omega arith)
beyond_at at (row ∷ rows) none (suc k) within = beyond_at (at + 1) rows (λ j. none (suc j)) k (le_of_suc-le-suc within)
beyond_at at ((first ∷ others) ∷ rows) none zero within =
    inl (ap (λ (b : Best). b.score) (first_chosen (route_of (log_float 0) (at + 1) (edges_of rows)) (at + 1) first others (none 0 first (Memᴰ.head refl))))
beyond_at at ([] ∷ []) none zero within = lone_beyond _ (inl (score_at_start (route_of (log_float 0) (at + 1) []) (at + 1)))
beyond_at at ([] ∷ next ∷ rows) none zero within =
    lone_beyond _
    (inr (rw (score_at_start (route_of (log_float 0) (at + 1) (edges_of (next ∷ rows))) (at + 1))
    (beyond_at (at + 1) (next ∷ rows) (λ j. none (suc j)) 0 (omega arith))))

pub not_finite_at_total_zero : NotFiniteAtTotalZero
not_finite_at_total_zero at rows none k within = beyond_finite _ (beyond_at at rows none k within)
