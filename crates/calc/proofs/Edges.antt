-- One position's edges in slices: the loop of `best_of`.
-- What is kept at each turn is `Scanned`: the choice so far, carried on over the edges that are left, gives what the choice over all edges gives, and
-- the choice so far is one of the edges passed. A turn takes one edge off what is left, so `choose` takes the step that `next_choice` took.
-- Assumes nothing.
use Prim.Native.Nat.{ℕ, suc, ◌+◌, ◌-◌, ◌≤◌, ◌<◌}
use mathlib.Core.List.{List}
use mathlib.Core.Logic.{◌⊎◌, inl, inr}
use mathlib.Core.Path.{◌≡◌, refl, sym, ap, ◌∙◌, subst}
use native.Mathlib.Nat.{le_refl, sub-zero}
use native.Mathlib.Omega.{arith}
use lib.Ieee.{Float, nan}
use lib.ListN.{get_or, get_or-map}
use Rattle.route.specs.declared.Choice.{Choice as CodeChoice}
use Rattle.route.specs.declared.Choice.TheVariants.{NoEdge, Best as BestEdge}
use Rattle.route.specs.Route.{Best, Choice, no_edge, step_score, chosen, score_at, choose}
use Rattle.route.specs.Slices.{nowhere, as_choice, with_scores, edges_from, chosen_from, ChosenOf}

-- the score at a position of a route that starts at 0 and has these scores
pub score_of : (scores : List Float) (at : ℕ) → score_at (with_scores scores) 0 at ≡ get_or scores at nan
score_of scores at =
    ap (λ (k : ℕ). (get_or (with_scores scores) k nowhere).score) (sub-zero at)
    ∙ ap (λ (b : Best). b.score) (get_or-map (λ (s : Float). record { score = s; end = 0 }) scores at nan)

module _ (ends records : List ℕ) (logarithms scores : List Float) (log_total : Float) where
  -- an edge, with its score
  abbrev pub scored_edge : ℕ → Best
  scored_edge place =
      record {
        score = step_score (get_or logarithms (get_or records place 0) nan) log_total (get_or scores (get_or ends place 0) nan);
        end = get_or ends place 0;
      }

  -- a choice carried on over the edges from a place up to another
  unfoldable pub carried_on : ℕ → ℕ → Choice → Choice
  carried_on to place c = choose log_total (with_scores scores) 0 (edges_from ends records logarithms place (to - place)) c

  choose_edge : (to place : ℕ) (c : Choice) → place < to → carried_on to place c ≡ carried_on to (place + 1) (chosen c (scored_edge place))
  unfolding carried_on edges_from choose
  choose_edge to place c h =
      let left : to - place ≡ suc (to - (place + 1)) = omega arith in
      rw left
      (ap
      (λ (s : Float). choose log_total (with_scores scores) 0 (edges_from ends records logarithms (place + 1) (to - (place + 1)))
      (chosen c (record { score = step_score (get_or logarithms (get_or records place 0) nan) log_total s; end = get_or ends place 0 })))
      (score_of scores (get_or ends place 0)))

  choose_none : (to place : ℕ) (c : Choice) → to ≤ place → carried_on to place c ≡ c
  unfolding carried_on edges_from choose
  choose_none to place c h = let left : to - place ≡ 0 = omega arith in rw left

  -- ---- the loop

  pub record Scanned (from to : ℕ) (choice : CodeChoice) (place : ℕ) : Type 0 where
    pub first : from ≤ place
    pub last : place ≤ to
    pub same : carried_on to place (as_choice choice) ≡ carried_on to from no_edge
    pub one : ChosenOf ends records from place choice

  module _ (from to : ℕ) where
    pub scan_starts : from ≤ to → Scanned from to NoEdge from
    scan_starts h = record { first = le_refl from; last = h; same = refl; one = refl }

    -- the edges passed are one more
    one_more : (choice r : CodeChoice) (place : ℕ) (score : Float)
        → from ≤ place
        → ChosenOf ends records from place choice
        → as_choice r ≡ chosen (as_choice choice) (scored_edge place)
        → (r ≡ choice) ⊎ (r ≡ BestEdge score (get_or ends place 0) (get_or records place 0))
        → ChosenOf ends records from (place + 1) r
    one_more choice r place score first one e (inr new) =
        subst (ChosenOf ends records from (place + 1)) (sym new)
        (record { place = place; first = first; last = omega arith; ends_there = refl; recorded = refl })
    one_more NoEdge r place score first one e (inl old) =
        let new : ◌≡◌ {A = ℕ} 0 1 = cc (ap as_choice old) in absurd (omega arith)
    one_more (BestEdge s end n) r place score first one e (inl old) =
        subst (ChosenOf ends records from (place + 1)) (sym old)
        (record { place = one.place; first = one.first; last = omega (arith, one.last); ends_there = one.ends_there; recorded = one.recorded })

    pub scan_edge : (choice r : CodeChoice) (place : ℕ) (score : Float)
        → Scanned from to choice place
        → place < to
        → as_choice r ≡ chosen (as_choice choice) (scored_edge place)
        → (r ≡ choice) ⊎ (r ≡ BestEdge score (get_or ends place 0) (get_or records place 0))
        → Scanned from to r (place + 1)
    scan_edge choice r place score scanned h e new =
        record {
          first = omega arith;
          last = omega arith;
          same = ap (carried_on to (place + 1)) e ∙ sym (choose_edge to place (as_choice choice) h) ∙ scanned.same;
          one = one_more choice r place score scanned.first scanned.one e new;
        }

    pub scan_ends : (choice : CodeChoice) (place : ℕ)
        → Scanned from to choice place
        → to ≤ place
        → (as_choice choice ≡ chosen_from ends records logarithms scores log_total from to)
        × ChosenOf ends records from to choice
    unfolding carried_on
    scan_ends choice place scanned h =
        let there : place ≡ to = omega arith in (
          sym (choose_none to place (as_choice choice) h) ∙ scanned.same,
          subst (λ (k : ℕ). ChosenOf ends records from k choice) there scanned.one,
        )
