-- `RouteBest`: from each position the route has the highest score of all paths.
-- The score at a position is at least that of each step from there with the score at the step's end (`step_no_worse`), so by the path's steps it is
-- at least the path's; and it is that of one such step, the one that ends where the route does, so the path of these steps has it. Over doubles the
-- same holds, since the scores of the route (`route_exact`) and of each path are exact.
-- Assumes nothing.
use Prim.Native.Nat.{ℕ, zero, suc, ◌+◌, ◌-◌, ◌*◌, ◌^◌, ◌≤◌, ◌<◌}
use mathlib.Core.Bool.{Bool}
use mathlib.Core.List.Memᴰ
use mathlib.Core.List.{List, [], ◌∷◌, Memᴰ}
use mathlib.Core.Path.{◌≡◌, refl, sym, ap, ◌∙◌}
use native.Mathlib.Nat.{le_of_suc-le-suc, sub-zero}
use native.Mathlib.Omega.{arith}
use lib.IntN.{pos}
use lib.ListN.{length, get_or}
use Rattle.score.specs.Scores.{Score, whole, float_of, Within, Held}
use Rattle.score.specs.Logarithm.{log_float}
use Rattle.score.proofs.Scores.{less_than_exact}
use Rattle.score.proofs.Sizes.{within_more}
use Rattle.score.proofs.Logarithm.{logarithm_edge}
use Rattle.score.proofs.Tests.{by_leb}
use Rattle.route.specs.Route.{Best, step_score, route_of}
use Rattle.route.specs.Slices.{nowhere}
use Rattle.best_route.specs.Paths.{Word, edges_of, Forward, Block, Scored, unreached, as_float, step_over, scored, best_step, later_score, score_route}
use Rattle.best_route.specs.Paths.{steps_at, IsPath, Follows, path_score, path_float}
use Rattle.best_route.specs.Claims.{RouteBest}
use Rattle.best_route.proofs.Exact.{step_within, score_exact, route_length, sizes_held, route_exact}
use Rattle.best_route.proofs.Order.{AtLeast, at_least_self, at_least_trans, at_least_plus}
use Rattle.best_route.proofs.Steps.{NoWorse, step_no_worse, step_one}

-- ---- one entry of the route

-- the entry of a position is the best step by the scores at later positions, and those are the route's
pub record EntryAt (total at : ℕ) (rows : List (List Word)) (k next : ℕ) : Type 0 where
  pub later : ℕ → Score
  pub best : get_or (score_route total at rows) k unreached ≡ best_step total later next (get_or rows k [])
  pub of_route : (q : ℕ) → next ≤ q → later q ≡ later_score (score_route total at rows) at q

-- a later position in a route, and in the route without its first entry
skip_first : (first : Scored) (rest : List Scored) (at q : ℕ) → at < q → later_score rest (at + 1) q ≡ later_score (first ∷ rest) at q
skip_first first rest at q behind =
    let one : suc (q - (at + 1)) ≡ q - at = omega arith in
    ap (λ (j : ℕ). (get_or (first ∷ rest) j unreached).score) one

entry_at : (total at : ℕ) (rows : List (List Word)) (k next : ℕ) → next ≡ at + k + 1 → k < length rows → EntryAt total at rows k next
unfolding score_route
entry_at total at [] k next e within = absurd (omega arith)
entry_at total at (row ∷ rows) zero next e within =
    let rest : List Scored = score_route total (at + 1) rows in
    let here : at + 1 ≡ next = omega arith in
    record {
      later = later_score rest (at + 1);
      best = ap (λ (n : ℕ). best_step total (later_score rest (at + 1)) n row) here;
      of_route = λ q behind. skip_first _ rest at q (omega arith);
    }
entry_at total at (row ∷ rows) (suc k) next e within =
    let entry = entry_at total (at + 1) rows k next (omega arith) (le_of_suc-le-suc within) in
    record {
      later = entry.later;
      best = entry.best;
      of_route = λ q behind. entry.of_route q behind ∙ skip_first _ (score_route total (at + 1) rows) at q (omega arith);
    }

-- "score 0 at the block's end"
end_score : (total at : ℕ) (rows : List (List Word)) → (get_or (score_route total at rows) (length rows) unreached).score ≡ whole (pos 0)
unfolding score_route
end_score total at [] = refl
end_score total at (row ∷ rows) = end_score total (at + 1) rows

module _ (total : ℕ) (rows : List (List Word)) where
  -- the score at a position
  abbrev pub value : ℕ → Score
  value position = (get_or (score_route total 0 rows) position unreached).score

  -- a step from a position
  abbrev StepFrom : ℕ → Word → Type 0
  StepFrom position w = Memᴰ w (steps_at (position + 1) (get_or rows position []))

  entry : (position : ℕ) → position < length rows → EntryAt total 0 rows position (position + 1)
  entry position within = entry_at total 0 rows position (position + 1) (omega arith) within

  later_value : (position : ℕ) (within : position < length rows) (q : ℕ) → position < q → (entry position within).later q ≡ value q
  later_value position within q behind = (entry position within).of_route q (omega arith) ∙ ap value (sub-zero q)

  module _ (forward : Forward 0 rows) where
    pub step_forward : (position : ℕ) (w : Word) → position < length rows → StepFrom position w → (position < w.end) × (w.end ≤ length rows)
    step_forward position w within = go (get_or rows position []) (λ v m. let ahead = forward position v m in (omega arith, omega arith))
      where
        go : (row : List Word)
            → ((v : Word) → Memᴰ v row → (position < v.end) × (v.end ≤ length rows))
            → Memᴰ w (steps_at (position + 1) row)
            → (position < w.end) × (w.end ≤ length rows)
        go [] ahead m = rw (Memᴰ.eq_of_singleton m) (omega arith, omega arith)
        go (v ∷ ws) ahead m = ahead w m

    -- ---- no path has a higher score

    pub entry_no_worse : (position : ℕ) (w : Word)
        → position < length rows
        → StepFrom position w
        → NoWorse (get_or (score_route total 0 rows) position unreached) (scored total value w)
    entry_no_worse position w within m =
        rw ((entry position within).best, ← later_value position within w.end (step_forward position w within m).0)
        (step_no_worse total (entry position within).later (position + 1) (get_or rows position []) w m)

    pub none_higher : (path : List Word) (position : ℕ) → IsPath rows position path → AtLeast (value position) (path_score total path)
    none_higher [] position here = rw (here, end_score total 0 rows) (at_least_self (whole (pos 0)))
    none_higher (step ∷ path) position (within, m, rest) =
        at_least_trans _ _ _ (entry_no_worse position step within m).score (at_least_plus _ _ _ (none_higher path step.end rest))

    -- ---- the path that follows the route

    module _ (route : List Best)
        (same_end : (position : ℕ) → position < length rows → (get_or route position nowhere).end ≡ (get_or (score_route total 0 rows) position unreached).end) where
      record Followed (position : ℕ) : Type 0 where
        path : List Word
        is_path : IsPath rows position path
        follows : Follows route position path
        attained : path_score total path ≡ value position

      follow_end : (position : ℕ) → position ≡ length rows → Followed position
      follow_end position here = record { path = []; is_path = here; follows = tt; attained = sym (rw here (end_score total 0 rows)) }

      -- the step by which the entry of the position was chosen, and on from its end
      follow_step : (position : ℕ) (within : position < length rows) (step : Word) (m : StepFrom position step)
          → best_step total (entry position within).later (position + 1) (get_or rows position []) ≡ scored total (entry position within).later step
          → Followed step.end
          → Followed position
      follow_step position within step m best rest =
          let chosen = (entry position within).best ∙ best in
          let score = later_value position within step.end (step_forward position step within m).0 in
          record {
            path = step ∷ rest.path;
            is_path = (within, m, rest.is_path);
            follows = (sym (same_end position within ∙ ap (λ (s : Scored). s.end) chosen), rest.follows);
            attained = ap (step_over total step.frequency) (rest.attained ∙ sym score) ∙ sym (ap (λ (s : Scored). s.score) chosen);
          }

      follow : (left position : ℕ) → position ≤ length rows → length rows ≤ position + left → Followed position
      follow zero position inside near = follow_end position (omega arith)
      follow (suc left) position inside near =
          by_leb (suc position) (length rows) (λ (t : Bool). Followed position)
          (λ within.
          let (step, m, best) = step_one total (entry position within).later (position + 1) (get_or rows position []) in
          let ahead = step_forward position step within m in
          follow_step position within step m best (follow left step.end ahead.1 (omega arith)))
          (λ ended. follow_end position (omega arith))

    -- ---- doubles

    path_exact : 1 ≤ total
        → length rows * 2 ^ 29 ≤ 2 ^ 53
        → (path : List Word) (position : ℕ)
        → IsPath rows position path
        → (path_float total path ≡ float_of (path_score total path)) × Within ((length rows - position) * 2 ^ 29) (path_score total path)
    path_exact counted short [] position here = (refl, omega arith)
    path_exact counted short (step ∷ path) position (within, m, rest) =
        let (same, small) = path_exact counted short path step.end rest in
        let ahead = step_forward position step within m in
        let left : ℕ = (length rows - step.end) * 2 ^ 29 in
        let held : Held (path_score total path) = within_more left (2 ^ 53) (path_score total path) (omega arith) small in
        let larger = step_within total step.frequency left (path_score total path) small in (
          ap (step_score (log_float step.frequency) (log_float total)) same ∙ logarithm_edge step.frequency total (path_score total path) counted held,
          within_more (2 ^ 29 + left) ((length rows - position) * 2 ^ 29) (path_score total (step ∷ path)) (omega arith) larger,
        )

    path_held : length rows * 2 ^ 29 ≤ 2 ^ 53 → (position : ℕ) (path : List Word)
        → Within ((length rows - position) * 2 ^ 29) (path_score total path)
        → Held (path_score total path)
    path_held short position path small = within_more ((length rows - position) * 2 ^ 29) (2 ^ 53) (path_score total path) (omega arith) small

-- ---- the claim

-- an entry of the route of doubles is that of the route of scores
pub same_entry : (total : ℕ) (rows : List (List Word)) → Block total 0 rows → (k : ℕ) → k ≤ length rows
    → get_or (route_of (log_float total) 0 (edges_of rows)) k nowhere ≡ as_float (get_or (score_route total 0 rows) k unreached)
same_entry total rows block k within =
    ap (λ (r : List Best). get_or r k nowhere) (route_exact total 0 rows block).0
    ∙ score_exact (score_route total 0 rows) k (omega (arith, route_length total 0 rows))

pub route_best : RouteBest
route_best total rows block position inside =
    record {
      none_higher = λ path is_path. none_higher total rows block.forward path position is_path;
      none_higher_float = λ path is_path.
          let (same, small) = exact_path path is_path in
          let held = path_held total rows block.forward (sizes_held block) position path small in
          rw (same_score, same)
          (less_than_exact (value total rows position) (path_score total path) ((route_exact total 0 rows block).1 position inside) held
          ∙ none_higher total rows block.forward path position is_path);
      followed = best.path;
      is_path = best.is_path;
      follows = best.follows;
      attained = best.attained;
      attained_float = (exact_path best.path best.is_path).0 ∙ ap float_of best.attained ∙ sym same_score;
    }
  where
    route : List Best
    route = route_of (log_float total) 0 (edges_of rows)

    same_score : (get_or route position nowhere).score ≡ float_of (value total rows position)
    same_score = ap (λ (b : Best). b.score) (same_entry total rows block position inside)

    same_end : (k : ℕ) → k < length rows → (get_or route k nowhere).end ≡ (get_or (score_route total 0 rows) k unreached).end
    same_end k within = ap (λ (b : Best). b.end) (same_entry total rows block k (omega arith))

    exact_path : (path : List Word)
        → IsPath rows position path
        → (path_float total path ≡ float_of (path_score total path)) × Within ((length rows - position) * 2 ^ 29) (path_score total path)
    exact_path path is_path = path_exact total rows block.forward block.counted (sizes_held block) path position is_path

    best : Followed total rows block.forward route same_end position
    best = follow total rows block.forward route same_end (length rows) position inside (omega arith)
