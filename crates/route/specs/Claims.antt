-- What is claimed of the route, and of the slices that `calc` writes. Proofs: `proofs/Words.antt`, `proofs/Forward.antt`. That the route is the best one
-- is in `best_route`.
-- Assumes nothing.
use Rattle.std.specs.Prelude.{ℕ, ◌+◌, ◌≤◌, ◌<◌, ◌≡◌, Float, length, get_or}
use mathlib.Core.List.{List, ◌∷◌, Memᴰ}
use Rattle.book.specs.Prefixes.{Edge}
use Rattle.route.specs.Route.{Best, step_score, score_at, route_of}
use Rattle.route.specs.Slices.{nowhere, EdgesFit, KeepsRoute}

-- the step by a word, with the route from the next position on
abbrev pub step_by : Float → List Best → ℕ → Edge → Best
step_by log_total rest next word = record { score = step_score word.logarithm log_total (score_at rest next word.end); end = word.end }

-- "A lone-character step exists only where no word starts": where words start, the step is by one of them
abbrev pub NoLoneStepBesideWords : Type 0
NoLoneStepBesideWords =
    (log_total : Float) (at : ℕ) (first : Edge) (others : List Edge) (rows : List (List Edge))
    → (word : Edge)
    × Memᴰ word (first ∷ others)
    × (get_or (route_of log_total at ((first ∷ others) ∷ rows)) 0 nowhere ≡ step_by log_total (route_of log_total (at + 1) rows) (at + 1) word)

-- the step from each position leads forward, to the block's end at most, whatever the logarithms are
abbrev pub EndsForward : Type 0
EndsForward =
    (starts edge_ends edge_records : List ℕ) (logarithms : List Float) (log_total : Float) (n : ℕ) (scores : List Float) (ends records : List ℕ)
    → EdgesFit starts edge_ends edge_records (length logarithms) n
    → KeepsRoute starts edge_ends edge_records logarithms log_total n scores ends records
    → (i : ℕ)
    → i < n
    → (i < get_or ends i 0) × (get_or ends i 0 ≤ n)
