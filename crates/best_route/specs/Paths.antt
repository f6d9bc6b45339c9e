-- The route over scores, and the paths through a block: what the claims of `Claims` compare the route with.
-- A block is given by the words that start at each of its positions, with their frequencies; positions are counted from the block's start unless
-- another first position is given.
-- Assumes nothing.
use Rattle.std.specs.Prelude.{ℕ, ◌+◌, ◌-◌, ◌≤◌, ◌<◌, Bool, cond, ◌&&◌, ◌||◌, ◌≡◌, ltb, pos, Float, length, get_or}
use mathlib.Core.List.{List, [], ◌∷◌, map, Memᴰ}
use Rattle.score.specs.Scores.{Score, minus_infinity, whole, float_of, plus, minus, less_than, equals}
use Rattle.score.specs.Logarithm.{L, log_of, log_float}
use Rattle.book.specs.Returns.{longest_text}
use Rattle.book.specs.Prefixes.{Edge}
use Rattle.route.specs.Route.{Best, zero_float, step_score}
use Rattle.route.specs.Slices.{nowhere}

-- ---- words

-- a held word that starts at a position: the position after it, and its frequency
pub record Word : Type 0 where
  pub end : ℕ
  pub frequency : ℕ

-- its edge: "each stored logarithm L of its frequency"
abbrev pub edge_of : Word → Edge
edge_of w = record { end = w.end; logarithm = log_float w.frequency }

abbrev pub edges_of : List (List Word) → List (List Edge)
edges_of rows = map (map edge_of) rows

-- every word ends behind its position, at the block's end at most
abbrev pub Forward : ℕ → List (List Word) → Type 0
Forward at rows = (k : ℕ) (w : Word) → Memᴰ w (get_or rows k []) → (at + k < w.end) × (w.end ≤ at + length rows)

-- "With total ≥ 1", a block of a text of at most 16,777,215 bytes
pub record Block (total at : ℕ) (rows : List (List Word)) : Type 0 where
  pub counted : 1 ≤ total
  pub short : length rows ≤ longest_text
  pub forward : Forward at rows

-- ---- the route over scores

-- a step from a position, with the score from there to the block's end
pub record Scored : Type 0 where
  pub score : Score
  pub end : ℕ

-- what stands past the route's end
abbrev pub unreached : Scored
unreached = record { score = minus_infinity; end = 0 }

-- the same with a double
abbrev pub as_float : Scored → Best
as_float s = record { score = float_of s.score; end = s.end }

-- "L(freq) - L(total) + score at the end, worked out in that order"
abbrev pub step_over : ℕ → ℕ → Score → Score
step_over total frequency score = plus (minus (L frequency) (pos (log_of total))) score

-- a word as a step, by the scores at later positions
abbrev pub scored : ℕ → (ℕ → Score) → Word → Scored
scored total later w = record { score = step_over total w.frequency (later w.end); end = w.end }

-- "Greater score wins, then larger end"
abbrev pub wins : Scored → Scored → Bool
wins new old = less_than old.score new.score || equals new.score old.score && ltb old.end new.end

abbrev pub better : Scored → Scored → Scored
better new old = cond (wins new old) new old

-- the best of a step and the words that follow it
unfoldable pub best_of : ℕ → (ℕ → Score) → Scored → List Word → Scored
best_of total later best [] = best
best_of total later best (w ∷ ws) = best_of total later (better (scored total later w) best) ws

-- the lone step to the next position: "0 for L(freq)", as for a frequency of 1
abbrev pub lone : ℕ → Word
lone next = record { end = next; frequency = 1 }

-- "A lone-character step exists only where no word starts."
abbrev pub best_step : ℕ → (ℕ → Score) → ℕ → List Word → Scored
best_step total later next [] = scored total later (lone next)
best_step total later next (w ∷ ws) = best_of total later (scored total later w) ws

-- of a route that starts at a position: the score at a later one
abbrev pub later_score : List Scored → ℕ → ℕ → Score
later_score route from at = (get_or route (at - from) unreached).score

-- "From the right .. with score 0 at the block's end"
unfoldable pub score_route : ℕ → ℕ → List (List Word) → List Scored
score_route total at [] = record { score = whole (pos 0); end = at } ∷ []
score_route total at (row ∷ rows) =
    let rest : List Scored = score_route total (at + 1) rows in
    best_step total (later_score rest (at + 1)) (at + 1) row ∷ rest

-- ---- paths

-- the steps from a position: its words, or the lone step where no word starts
abbrev pub steps_at : ℕ → List Word → List Word
steps_at next [] = lone next ∷ []
steps_at next (w ∷ ws) = w ∷ ws

-- a path from a position to the block's end: each step is one of its position's
abbrev pub IsPath : List (List Word) → ℕ → List Word → Type 0
IsPath rows position [] = position ≡ length rows
IsPath rows position (step ∷ path) =
    (position < length rows) × Memᴰ step (steps_at (position + 1) (get_or rows position [])) × IsPath rows step.end path

-- a path that takes the route's step at each position
abbrev pub Follows : List Best → ℕ → List Word → Type 0
Follows route position [] = Unit {0}
Follows route position (step ∷ path) = (step.end ≡ (get_or route position nowhere).end) × Follows route step.end path

-- a path's score, summed from the right
abbrev pub path_score : ℕ → List Word → Score
path_score total [] = whole (pos 0)
path_score total (step ∷ path) = step_over total step.frequency (path_score total path)

-- the same with doubles
abbrev pub path_float : ℕ → List Word → Float
path_float total [] = zero_float
path_float total (step ∷ path) = step_score (log_float step.frequency) (log_float total) (path_float total path)
