-- The choice between two edges, and the step that is settled on: what `next_choice` and `settle` answer, case by case.
-- The tests that lead to an answer are those of `chosen`, so it takes the same edge.
-- Assumes nothing.
use Prim.Native.Nat.{ℕ, ◌≤◌, ◌<◌}
use mathlib.Core.Bool.{true, false}
use mathlib.Core.List.{List, [], ◌∷◌}
use mathlib.Core.Logic.{◌⊎◌, inl, inr}
use mathlib.Core.Path.{◌≡◌, refl, ap, sym}
use native.Mathlib.Nat.{sub_self}
use borrow.Author.Tests.{lt-ltb, le-ltb}
use lib.Ieee.{Float, lt, eq}
use lib.ListN.{get_or}
use Rattle.route.specs.declared.Choice.{Choice as CodeChoice}
use Rattle.route.specs.declared.Choice.TheVariants.{NoEdge, Best as BestEdge}
use Rattle.route.specs.Route.{Best, no_edge, zero_float, step_score, chosen, score_at, settled}
use Rattle.route.specs.Slices.{as_choice, with_scores, nowhere}

-- ---- one more edge

-- an answer after one more edge: what `chosen` takes, and with its record
abbrev Next : CodeChoice → Float → ℕ → ℕ → CodeChoice → Type 0
Next choice new end n r = (as_choice r ≡ chosen (as_choice choice) (record { score = new; end = end })) × ((r ≡ choice) ⊎ (r ≡ BestEdge new end n))

pub take_first : (choice : CodeChoice) (new : Float) (end n : ℕ) → choice ≡ NoEdge → Next choice new end n (BestEdge new end n)
take_first choice new end n none = (rw none, inr refl)

module _ (choice : CodeChoice) (new : Float) (end n : ℕ) (old : Float) (old_end old_n : ℕ) (best : choice ≡ BestEdge old old_end old_n) where
  pub take_greater : lt old new ≡ true → Next choice new end n (BestEdge new end n)
  take_greater less = (rw (best, less), inr refl)

  module _ (not_less : lt old new ≡ false) where
    pub take_further : eq new old ≡ true → old_end < end → Next choice new end n (BestEdge new end n)
    take_further equal further = (rw (best, not_less, equal, lt-ltb old_end end further), inr refl)

    pub keep_further : eq new old ≡ true → end ≤ old_end → Next choice new end n (BestEdge old old_end old_n)
    keep_further equal nearer = (rw (best, not_less, equal, le-ltb old_end end nearer), inl (sym best))

    -- the old score is greater, or one of the two is NaN
    pub keep_old : eq new old ≡ false → Next choice new end n (BestEdge old old_end old_n)
    keep_old not_equal = (rw (best, not_less, not_equal), inl (sym best))

-- ---- the step that is settled on

-- the score at the position that a route starts at
pub score_at_start : (route : List Best) (from : ℕ) → score_at route from from ≡ (get_or route 0 nowhere).score
score_at_start route from = ap (λ (k : ℕ). (get_or route k nowhere).score) (sub_self from)

-- the lone step
pub lone_step : (log_total score : Float) (next : ℕ)
    → record { score = step_score zero_float log_total score; end = next } ≡ settled log_total (with_scores (score ∷ [])) next no_edge
lone_step log_total score next =
    ap (λ (s : Float). record { score = step_score zero_float log_total s; end = next }) (sym (score_at_start (with_scores (score ∷ [])) next))
