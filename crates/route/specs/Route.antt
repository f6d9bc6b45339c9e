-- A block's route: document 01, "Edges and route: `StaticSparseDAG`, `calc`".
-- Positions are counted from the block's start. The route is defined from the edges and L(total) alone.
-- Assumes nothing.
use Rattle.std.specs.Prelude.{ℕ, ◌+◌, ◌-◌, Bool, cond, ◌&&◌, ◌||◌, List, [], ◌∷◌, ltb, pos, Float, get_or}
use Rattle.std.specs.Float.{nan, binary64}
use Rattle.std.specs.Float.Ieee.{add, sub, lt, eq}
use Rattle.score.specs.Scores.{whole, float_of}
use Rattle.book.specs.Prefixes.{Edge}

-- ---- route

-- "The route keeps score, end and record number for each position": score and end
pub record Best : Type 0 where
  pub score : Float
  pub end : ℕ

-- "While choosing there is either no edge yet, or the best edge with its score."
pub data Choice : Type 0 where
  no_edge : Choice
  best_edge : Best → Choice

-- "score 0 at the block's end"; "the lone step has 0 for L(freq)"
abbrev pub zero_float : Float
zero_float = float_of (whole (pos 0))

-- "the stored L(freq) - L(total) + score at the end, worked out in that order"
abbrev pub step_score : Float → Float → Float → Float
step_score log log_total score = add binary64 (sub binary64 log log_total) score

-- "Greater score wins, then larger end"
abbrev pub beats : Best → Best → Bool
beats new old = lt old.score new.score || eq new.score old.score && ltb old.end new.end

-- one more edge; "a NaN first edge stays"
abbrev pub chosen : Choice → Best → Choice
chosen no_edge new = best_edge new
chosen (best_edge old) new = cond (beats new old) (best_edge new) (best_edge old)

-- of a route that starts at a position: the score at a later one
abbrev pub score_at : List Best → ℕ → ℕ → Float
score_at route from at = (get_or route (at - from) (record { score = nan; end = 0 })).score

-- the edges of a position, one after the other, with the route from the next position on
unfoldable pub choose : Float → List Best → ℕ → List Edge → Choice → Choice
choose log_total rest next [] c = c
choose log_total rest next (e ∷ es) c =
    choose log_total rest next es (chosen c (record { score = step_score e.logarithm log_total (score_at rest next e.end); end = e.end }))

-- "A lone-character step exists only where no word starts."
abbrev pub settled : Float → List Best → ℕ → Choice → Best
settled log_total rest next no_edge = record { score = step_score zero_float log_total (score_at rest next next); end = next }
settled log_total rest next (best_edge b) = b

-- "From the right": the best step from each position on, and the block's end
unfoldable pub route_of : Float → ℕ → List (List Edge) → List Best
route_of log_total at [] = record { score = zero_float; end = at } ∷ []
route_of log_total at (es ∷ rows) =
    let rest : List Best = route_of log_total (at + 1) rows in
    settled log_total rest (at + 1) (choose log_total rest (at + 1) es no_edge) ∷ rest
