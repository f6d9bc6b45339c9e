-- Which of several best routes is taken: document 02, note 14, "Equal scores, fixed choice".
-- "Where the best score of a block is finite, .. the route taken is the only best one such that every other best route, at the first place where the two
-- part, has the smaller end there." A route is a whole path of steps through a block, before letters join; its steps are those of document 01, so no lone
-- step stands beside a word. The claims are made from every position of a block; a block's start is position 0.
-- "Minus-infinity routes keep only the rule for each position", which is `route_of` (`route/specs/Route.antt`): behind a word of frequency 0 every path is
-- as good as any, and the one taken may well have the smaller end where two part (`built_cuts/specs/Examples.antt` has such a book).
-- Proofs: `proofs/Ties.antt`, `proofs/TotalZero.antt`.
-- Assumes nothing.
use Rattle.std.specs.Prelude.{ℕ, ◌≤◌, ◌<◌, false, ◌≢◌, ◌≡◌, Float, length, get_or}
use mathlib.Core.List.{List, [], ◌∷◌, ◌++◌, Memᴰ}
use Rattle.std.specs.Float.{nan, inf, fin}
use Rattle.score.specs.Scores.{less_than}
use Rattle.score.specs.Logarithm.{log_float}
use Rattle.route.specs.Route.{route_of}
use Rattle.route.specs.Slices.{nowhere}
use Rattle.best_route.specs.Paths.{Word, edges_of, Block, IsPath, Follows, path_score, path_float}
use Rattle.best_route.specs.Claims.{Rising}

-- ---- two paths

-- "at the first place where the two part, has the smaller end there": the steps before that place are the same, and there the other's step ends earlier
pub record SmallerWherePart (path other : List Word) : Type 0 where
  pub before : List Word
  pub step : Word
  pub rest : List Word
  pub other_step : Word
  pub other_rest : List Word
  pub goes : path ≡ before ++ (step ∷ rest)
  pub other_goes : other ≡ before ++ (other_step ∷ other_rest)
  pub smaller : other_step.end < step.end

-- "best": a path from the position, and none from there has a higher score
pub record IsBest (total : ℕ) (rows : List (List Word)) (position : ℕ) (path : List Word) : Type 0 where
  pub is_path : IsPath rows position path
  pub none_higher : (other : List Word) → IsPath rows position other → less_than (path_score total path) (path_score total other) ≡ false

-- "every other best route, at the first place where the two part, has the smaller end there"
abbrev pub Prevails : ℕ → List (List Word) → ℕ → List Word → Type 0
Prevails total rows position path = (other : List Word) → IsBest total rows position other → other ≢ path → SmallerWherePart path other

-- ---- what is claimed

-- "the route taken is the only best one such that .."
pub record FixedChoice (total : ℕ) (rows : List (List Word)) (position : ℕ) : Type 0 where
  -- the route taken: a path along the route, whose score is the one that the route has there
  pub taken : List Word
  pub follows : Follows (route_of (log_float total) 0 (edges_of rows)) position taken
  pub attained : path_float total taken ≡ (get_or (route_of (log_float total) 0 (edges_of rows)) position nowhere).score
  -- it is best, prevails over the other best ones, and is the only one that does
  pub best : IsBest total rows position taken
  pub prevails : Prevails total rows position taken
  pub only : (path : List Word) → IsBest total rows position path → Prevails total rows position path → path ≡ taken

-- "finite": neither NaN nor an infinity
abbrev pub Finite : Float → Type 0
Finite nan = ⊥
Finite (inf s) = ⊥
Finite (fin s m e) = Unit {0}

-- with ends rising, so that no two words of a position have one end
abbrev pub ChoiceIsFixed : Type 0
ChoiceIsFixed =
    (total : ℕ) (rows : List (List Word))
    → Block total 0 rows
    → ((k : ℕ) → Rising (get_or rows k []))
    → (position : ℕ)
    → position ≤ length rows
    → Finite (get_or (route_of (log_float total) 0 (edges_of rows)) position nowhere).score
    → FixedChoice total rows position

-- a finite score has a total of at least 1: at a total of 0, where every frequency is 0, no score before the block's end is finite
abbrev pub NotFiniteAtTotalZero : Type 0
NotFiniteAtTotalZero =
    (at : ℕ) (rows : List (List Word))
    → ((k : ℕ) (w : Word) → Memᴰ w (get_or rows k []) → w.frequency ≡ 0)
    → (k : ℕ)
    → k < length rows
    → Finite (get_or (route_of (log_float 0) at (edges_of rows)) k nowhere).score
    → ⊥
