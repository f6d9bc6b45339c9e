-- `RouteExact`: with a total of at least 1 the route of doubles is the route of scores.
-- Each step adds at most 2^29 to the size of a score (`logarithm_difference`), so with k positions left a score is within k × 2^29, and with at most
-- 16,777,215 positions within 2^53, up to which doubles are exact. So each sum is exact (`logarithm_edge`), each comparison is the scores', and the
-- choice of doubles goes as the choice of scores, edge by edge and position by position.
-- Assumes nothing.
use Prim.Native.Nat.{ℕ, zero, suc, ◌+◌, ◌-◌, ◌*◌, ◌^◌, ◌≤◌, ◌<◌}
use mathlib.Core.Bool.{Bool, true, false, cond}
use mathlib.Core.List.{List, [], ◌∷◌, map, Memᴰ}
use mathlib.Core.Logic.{⊎_elim}
use mathlib.Core.Path.{◌≡◌, refl, sym, ap, ◌∙◌, subst}
use native.Mathlib.Nat.{le_of_suc-le-suc}
use native.Mathlib.Omega.{arith}
use lib.IntN.{pos}
use lib.Ieee.{Float}
use lib.ListN.{length, get_or}
use Rattle.score.specs.Scores.{Score, float_of, minus, Within, Held}
use Rattle.score.specs.Logarithm.{L, log_of, log_float}
use Rattle.score.proofs.Scores.{less_than_exact, equals_exact}
use Rattle.score.proofs.Sizes.{within_more, sum_within}
use Rattle.score.proofs.Logarithm.{starred_logarithms, logarithm_difference, logarithm_edge}
use Rattle.route.specs.Route.{Best, no_edge, best_edge, zero_float, step_score, chosen, score_at, choose, settled, route_of}
use Rattle.route.specs.Slices.{nowhere}
use Rattle.best_route.specs.Paths.{Word, edge_of, edges_of, Forward, Block, Scored, unreached, as_float}
use Rattle.best_route.specs.Paths.{step_over, scored, wins, better, best_of, lone, best_step, later_score, score_route}
use Rattle.best_route.specs.Claims.{RouteExact}
use Rattle.best_route.proofs.Steps.{better_one, step_one}

-- ---- sizes

-- every score of a route is within a bound
abbrev AllWithin : ℕ → List Scored → Type 0
AllWithin bound route = (k : ℕ) → Within bound (get_or route k unreached).score

all_within : (bound more : ℕ) (s : Scored) (route : List Scored) → bound ≤ more → Within more s.score → AllWithin bound route → AllWithin more (s ∷ route)
all_within bound more s route le first rest zero = first
all_within bound more s route le first rest (suc k) = within_more bound more (get_or route k unreached).score le (rest k)

pub step_within : (total frequency bound : ℕ) (score : Score) → Within bound score → Within (2 ^ 29 + bound) (step_over total frequency score)
step_within total frequency bound score within =
    sum_within (2 ^ 29) bound (minus (L frequency) (pos (log_of total))) score (logarithm_difference frequency total) within

better_within : (bound : ℕ) (new old : Scored) → Within bound new.score → Within bound old.score → Within bound (better new old).score
better_within bound new old new_within old_within =
    ⊎_elim
    (λ e. subst (λ (s : Scored). Within bound s.score) (sym e) new_within)
    (λ e. subst (λ (s : Scored). Within bound s.score) (sym e) old_within)
    (better_one new old)

-- ---- one edge

-- the choice between two scores that are held
better_exact : (new old : Scored) → Held new.score → Held old.score → chosen (best_edge (as_float old)) (as_float new) ≡ best_edge (as_float (better new old))
better_exact new old new_held old_held =
    rw (less_than_exact old.score new.score old_held new_held, equals_exact new.score old.score new_held old_held)
    (go (wins new old))
  where
    go : (t : Bool) → cond t (best_edge (as_float new)) (best_edge (as_float old)) ≡ best_edge (as_float (cond t new old))
    go true = refl
    go false = refl

-- a route of doubles that is the route of scores has its scores
pub score_exact : (route : List Scored) (k : ℕ) → k < length route → get_or (map as_float route) k nowhere ≡ as_float (get_or route k unreached)
score_exact [] k within = absurd (omega arith)
score_exact (s ∷ route) zero within = refl
score_exact (s ∷ route) (suc k) within = score_exact route k (le_of_suc-le-suc within)

-- the lone step's logarithm, "0 for L(freq)", is that of the frequency 1
zero_logarithm : zero_float ≡ log_float 1
unfolding log_float
zero_logarithm = ap float_of (sym starred_logarithms.1)

-- ---- one position

module _ (total : ℕ) (counted : 1 ≤ total) (rest : List Scored) (next bound : ℕ) (small : 2 ^ 29 + bound ≤ 2 ^ 53) (rest_within : AllWithin bound rest) where
  -- the score at a later position
  abbrev later : ℕ → Score
  later = later_score rest next

  -- a word that ends in the rest of the route
  abbrev Inside : Word → Type 0
  Inside w = w.end - next < length rest

  scored_within : (w : Word) → Within (2 ^ 29 + bound) (scored total later w).score
  scored_within w = step_within total w.frequency bound (later w.end) (rest_within (w.end - next))

  held : (s : Scored) → Within (2 ^ 29 + bound) s.score → Held s.score
  held s within = within_more (2 ^ 29 + bound) (2 ^ 53) s.score small within

  later_held : (q : ℕ) → Held (later q)
  later_held q = within_more bound (2 ^ 53) (later q) (omega arith) (rest_within (q - next))

  scored_exact : (w : Word) → Inside w
      → record { score = step_score (log_float w.frequency) (log_float total) (score_at (map as_float rest) next w.end); end = w.end }
      ≡ as_float (scored total later w)
  scored_exact w inside =
      ap (λ (s : Float). record { score = s; end = w.end })
      (ap (λ (b : Best). step_score (log_float w.frequency) (log_float total) b.score) (score_exact rest (w.end - next) inside)
      ∙ logarithm_edge w.frequency total (later w.end) counted (later_held w.end))

  best_exact : (best : Scored) (ws : List Word)
      → Within (2 ^ 29 + bound) best.score
      → ((w : Word) → Memᴰ w ws → Inside w)
      → choose (log_float total) (map as_float rest) next (map edge_of ws) (best_edge (as_float best)) ≡ best_edge (as_float (best_of total later best ws))
  unfolding choose best_of
  best_exact best [] within inside = refl
  best_exact best (w ∷ ws) within inside =
      ap (choose (log_float total) (map as_float rest) next (map edge_of ws))
      (ap (chosen (best_edge (as_float best))) (scored_exact w (inside w (Memᴰ.head refl)))
      ∙ better_exact (scored total later w) best (held (scored total later w) (scored_within w)) (held best within))
      ∙ best_exact (better (scored total later w) best) ws
      (better_within (2 ^ 29 + bound) (scored total later w) best (scored_within w) within)
      (λ v m. inside v (Memᴰ.tail m))

  step_exact : (row : List Word)
      → 0 < length rest
      → ((w : Word) → Memᴰ w row → Inside w)
      → settled (log_float total) (map as_float rest) next (choose (log_float total) (map as_float rest) next (map edge_of row) no_edge)
      ≡ as_float (best_step total later next row)
  unfolding choose
  step_exact [] more inside =
      ap (λ (log : Float). record { score = step_score log (log_float total) (score_at (map as_float rest) next next); end = next }) zero_logarithm
      ∙ scored_exact (lone next) (omega arith)
  step_exact (w ∷ ws) more inside =
      ap (settled (log_float total) (map as_float rest) next)
      (ap (λ (b : Best). choose (log_float total) (map as_float rest) next (map edge_of ws) (best_edge b)) (scored_exact w (inside w (Memᴰ.head refl)))
      ∙ best_exact (scored total later w) ws (scored_within w) (λ v m. inside v (Memᴰ.tail m)))

  best_step_within : (row : List Word) → Within (2 ^ 29 + bound) (best_step total later next row).score
  best_step_within row =
      let one = step_one total later next row in
      subst (λ (s : Scored). Within (2 ^ 29 + bound) s.score) (sym one.2) (scored_within one.0)

-- ---- the route

pub route_length : (total at : ℕ) (rows : List (List Word)) → length (score_route total at rows) ≡ suc (length rows)
unfolding score_route
route_length total at [] = refl
route_length total at (row ∷ rows) = ap suc (route_length total (at + 1) rows)

-- the words of the later positions go forward too
pub forward_rest : (at : ℕ) (row : List Word) (rows : List (List Word)) → Forward at (row ∷ rows) → Forward (at + 1) rows
forward_rest at row rows forward k w m = let ahead = forward (suc k) w m in (omega arith, omega arith)

exact : (total at : ℕ) (rows : List (List Word))
    → 1 ≤ total
    → length rows * 2 ^ 29 ≤ 2 ^ 53
    → Forward at rows
    → (route_of (log_float total) at (edges_of rows) ≡ map as_float (score_route total at rows))
    × AllWithin (length rows * 2 ^ 29) (score_route total at rows)
unfolding route_of score_route
exact total at [] counted short forward = (refl, all_within 0 0 _ [] (omega arith) (omega arith) (λ k. tt))
exact total at (row ∷ rows) counted short forward =
    let rest : List Scored = score_route total (at + 1) rows in
    let best : Scored = best_step total (later_score rest (at + 1)) (at + 1) row in
    let bound : ℕ = length rows * 2 ^ 29 in
    let long : length rest ≡ suc (length rows) = route_length total (at + 1) rows in
    let inside : (w : Word) → Memᴰ w row → w.end - (at + 1) < length rest = λ w m. omega (arith, forward 0 w m) in
    let (same, within) = exact total (at + 1) rows counted (omega arith) (forward_rest at row rows forward) in
    let same_rest =
    ap (λ (r : List Best). settled (log_float total) r (at + 1) (choose (log_float total) r (at + 1) (map edge_of row) no_edge) ∷ r) same in
    let same_best = step_exact total counted rest (at + 1) bound (omega arith) within row (omega arith) inside in
    let best_within = best_step_within total counted rest (at + 1) bound (omega arith) within row in
    let more : 2 ^ 29 + bound ≤ suc (length rows) * 2 ^ 29 = omega arith in (
      same_rest ∙ ap (λ (b : Best). b ∷ map as_float rest) same_best,
      all_within bound (suc (length rows) * 2 ^ 29) best rest (omega arith) (within_more _ _ best.score more best_within) within,
    )

-- a block is short enough
pub sizes_held : {total at : ℕ} {rows : List (List Word)} → Block total at rows → length rows * 2 ^ 29 ≤ 2 ^ 53
sizes_held block = omega (arith, block.short)

pub route_exact : RouteExact
route_exact total at rows block =
    let (same, within) = exact total at rows block.counted (sizes_held block) block.forward in
    (same, λ k inside. within_more (length rows * 2 ^ 29) (2 ^ 53) (get_or (score_route total at rows) k unreached).score (sizes_held block) (within k))
