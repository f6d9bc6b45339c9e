-- What is claimed of the route: document 01, "Edges and route". Proofs: `proofs/Exact.antt`, `proofs/Paths.antt`, `proofs/TotalZero.antt`.
-- Assumes nothing.
use Rattle.std.specs.Prelude.{ℕ, ◌≤◌, ◌<◌, false, ◌≡◌, length, get_or}
use mathlib.Core.List.{List, [], ◌∷◌, map, Memᴰ}
use Rattle.std.specs.Float.{nan}
use Rattle.std.specs.Float.Ieee.{lt}
use Rattle.score.specs.Scores.{Held, less_than}
use Rattle.score.specs.Logarithm.{log_float}
use Rattle.route.specs.Route.{route_of}
use Rattle.route.specs.Slices.{nowhere}
use Rattle.best_route.specs.Paths.{Word, edges_of, Block, unreached, as_float, score_route, IsPath, Follows, path_score, path_float}

-- "With total ≥ 1, and each stored logarithm L of its frequency, every score is minus infinity or a whole number that a double holds exactly": the
-- route of doubles is the route of scores, and each of its scores is held
abbrev pub RouteExact : Type 0
RouteExact =
    (total at : ℕ) (rows : List (List Word))
    → Block total at rows
    → (route_of (log_float total) at (edges_of rows) ≡ map as_float (score_route total at rows))
    × ((k : ℕ) → k ≤ length rows → Held (get_or (score_route total at rows) k unreached).score)

-- the route is best from a position, among scores and among doubles
pub record BestFrom (total : ℕ) (rows : List (List Word)) (position : ℕ) : Type 0 where
  -- no path from the position has a higher score
  pub none_higher : (path : List Word) → IsPath rows position path
      → less_than (get_or (score_route total 0 rows) position unreached).score (path_score total path) ≡ false
  pub none_higher_float : (path : List Word) → IsPath rows position path
      → lt (get_or (route_of (log_float total) 0 (edges_of rows)) position nowhere).score (path_float total path) ≡ false
  -- and the path that follows the route has that score
  pub followed : List Word
  pub is_path : IsPath rows position followed
  pub follows : Follows (route_of (log_float total) 0 (edges_of rows)) position followed
  pub attained : path_score total followed ≡ (get_or (score_route total 0 rows) position unreached).score
  pub attained_float : path_float total followed ≡ (get_or (route_of (log_float total) 0 (edges_of rows)) position nowhere).score

-- from each position of a block the route has the highest score of all paths
abbrev pub RouteBest : Type 0
RouteBest = (total : ℕ) (rows : List (List Word)) → Block total 0 rows → (position : ℕ) → position ≤ length rows → BestFrom total rows position

-- "ends rising"
abbrev pub Rising : List Word → Type 0
Rising [] = Unit {0}
Rising (w ∷ ws) = ((other : Word) → Memᴰ other ws → w.end < other.end) × Rising ws

-- "a NaN first edge stays, so at total 0 the shortest word wins in a book built by calls", where every frequency is then 0
abbrev pub ShortestAtTotalZero : Type 0
ShortestAtTotalZero =
    (at : ℕ) (rows : List (List Word))
    → ((k : ℕ) (w : Word) → Memᴰ w (get_or rows k []) → w.frequency ≡ 0)
    → (k : ℕ) (first : Word) (others : List Word)
    → get_or rows k [] ≡ first ∷ others
    → Rising (first ∷ others)
    → (get_or (route_of (log_float 0) at (edges_of rows)) k nowhere ≡ record { score = nan; end = first.end })
    × ((w : Word) → Memᴰ w (first ∷ others) → first.end ≤ w.end)
