-- A block along its route: the spans that are left from each position on, by the ends of the route's steps alone, and where the first of them ends.
-- Each step leads forward, so the fuel of `steps_from` never ends it before the block does.
-- Assumes nothing.
use Prim.Native.Nat.{ℕ, zero, suc, ◌+◌, ◌-◌, ◌≤◌, ◌<◌}
use mathlib.Core.Bool.{Bool, true, false, ◌&&◌}
use mathlib.Core.List.{List, [], ◌∷◌}
use mathlib.Core.Path.{◌≡◌, refl, sym, ap, ◌∙◌, subst}
use native.Mathlib.Nat.{sub-zero}
use native.Mathlib.Omega.{arith}
use borrow.Author.Tests.{ltb-true, lt-ltb, le-ltb, eqb-true}
use lib.Dec.{eqb, ltb}
use lib.ListN.{length, get_or, take}
use lib.Seq.{length-take-le, get_or-take}
use Rattle.classes.specs.Blocks.{ascii_letter_or_digit}
use Rattle.score.proofs.Tests.{by_leb}
use Rattle.route.specs.Route.{Best}
use Rattle.route.specs.Slices.{nowhere}
use Rattle.cuts.specs.Tokens.{Span, span, steps_from, joined, lone_letter, cut_route}
use Rattle.tokens.specs.Runs.{MaximalRun}
use Rattle.tokens.proofs.Runs.{Steps, no_spans, single, run}
use Rattle.tokens.proofs.Turns.{Turn}
use Rattle.cut_route.specs.Routes.{Forward, HasEnds}
use Rattle.cut_route.proofs.Letters.{letter_at, longer_step, letter_step, other_step}

-- ---- the steps, by their ends

unfoldable pub steps_by : List ℕ → ℕ → ℕ → ℕ → List Span
steps_by ends n zero at = []
steps_by ends n (suc fuel) at = elim (ltb at n) [ true ↦ span at (get_or ends at 0) ∷ steps_by ends n fuel (get_or ends at 0) | false ↦ [] ]

-- a route's steps are the steps by its ends
same_steps : (fuel : ℕ) (route : List Best) (ends : List ℕ) (n at : ℕ) → HasEnds n route ends → steps_from fuel route n at ≡ steps_by ends n fuel at
unfolding steps_from steps_by
same_steps zero route ends n at known = refl
same_steps (suc fuel) route ends n at known =
    by_test (ltb at n) (λ e. known at (ltb-true at n e)) (same_steps fuel route ends n (get_or route at nowhere).end known)
  where
    end : ℕ
    end = (get_or route at nowhere).end

    by_test : (inside : Bool) → (inside ≡ true → get_or ends at 0 ≡ end) → steps_from fuel route n end ≡ steps_by ends n fuel end
        → ◌≡◌ {A = List Span} (elim inside [ true ↦ span at end ∷ steps_from fuel route n end | false ↦ [] ])
        (elim inside [ true ↦ span at (get_or ends at 0) ∷ steps_by ends n fuel (get_or ends at 0) | false ↦ [] ])
    by_test true same rest = rw (same refl) (ap (λ (ss : List Span). span at end ∷ ss) rest)
    by_test false same rest = refl

module _ (ends : List ℕ) (n : ℕ) where
  past_end : (fuel at : ℕ) → n ≤ at → steps_by ends n fuel at ≡ []
  unfolding steps_by
  past_end zero at h = refl
  past_end (suc fuel) at h = rw (steps_by, le-ltb at n h)

  one_step : (fuel at : ℕ) → at < n → steps_by ends n (suc fuel) at ≡ span at (get_or ends at 0) ∷ steps_by ends n fuel (get_or ends at 0)
  unfolding steps_by
  one_step fuel at h = rw (steps_by, lt-ltb at n h)

  -- fuel that is enough for the rest of the block is as good as any other
  any_fuel : Forward n ends → (fuel other at : ℕ) → n ≤ at + fuel → n ≤ at + other → steps_by ends n fuel at ≡ steps_by ends n other at
  any_fuel forward zero other at h l = past_end zero at (omega arith) ∙ sym (past_end other at (omega arith))
  any_fuel forward (suc fuel) zero at h l = past_end (suc fuel) at (omega arith) ∙ sym (past_end zero at (omega arith))
  any_fuel forward (suc fuel) (suc other) at h l =
      by_leb n at (λ (t : Bool). steps_by ends n (suc fuel) at ≡ steps_by ends n (suc other) at)
      (λ p. past_end (suc fuel) at p ∙ sym (past_end (suc other) at p))
      (λ i.
      let onward : at < get_or ends at 0 = forward.onward at i in
      one_step fuel at i
      ∙ ap (λ (ss : List Span). span at (get_or ends at 0) ∷ ss) (any_fuel forward fuel other (get_or ends at 0) (omega arith) (omega arith))
      ∙ sym (one_step other at i))

-- ---- the spans from a position on

unfoldable pub route_from : List ℕ → List ℕ → ℕ → ℕ → List Span
route_from cs ends n x = joined (lone_letter cs) (steps_by ends n (n - x) x)

-- from the start on they are those of the route
pub whole_route : (chars ends : List ℕ) (n : ℕ) (route : List Best)
    → n ≤ length chars
    → HasEnds n route ends
    → route_from (take n chars) ends n 0 ≡ cut_route (take n chars) route
unfolding route_from cut_route
whole_route chars ends n route long known =
    rw (length-take-le n chars long, sub-zero n) (ap (joined (lone_letter (take n chars))) (sym (same_steps n route ends n 0 known)))

both_hold : (a b : Bool) → a && b ≡ true → a ≡ true
both_hold true b e = refl
both_hold false b e = e

module _ (chars ends : List ℕ) (n : ℕ) (forward : Forward n ends) where
  route_steps : Steps n (lone_letter (take n chars)) (λ x. steps_by ends n (n - x) x) (λ x. get_or ends x 0) (letter_at chars ends)
  route_steps =
      record {
        none = λ x h. past_end ends n (n - x) x h;
        next = λ x h.
            let more : n - x ≡ suc (n - x - 1) = omega arith in
            let onward : x < get_or ends x 0 = forward.onward x h in
            ap (λ (fuel : ℕ). steps_by ends n fuel x) more
            ∙ one_step ends n (n - x - 1) x h
            ∙ ap (λ (ss : List Span). span x (get_or ends x 0) ∷ ss)
            (any_fuel ends n forward (n - x - 1) (n - get_or ends x 0) (get_or ends x 0) (omega arith) (omega arith));
        joins = λ x h. ap (λ (c : ℕ). eqb (get_or ends x 0) (x + 1) && ascii_letter_or_digit c) (get_or-take n chars x 0 h);
        by_one = λ x h e. eqb-true (get_or ends x 0) (x + 1) (both_hold _ _ e);
      }

  pub route_end : (x : ℕ) → n ≤ x → route_from (take n chars) ends n x ≡ []
  unfolding route_from
  route_end x h = no_spans route_steps x h

  module _ (x : ℕ) (h : x < n) where
    -- a step that stands singly
    alone : letter_at chars ends x ≡ false → Turn n (route_from (take n chars) ends n) x (get_or ends x 0)
    unfolding route_from
    alone e = record { forward = forward.onward x h; inside = forward.inside x h; first = single route_steps x h e }

    pub word : (get_or ends x 0 ≡ x + 1 → ⊥) → Turn n (route_from (take n chars) ends n) x (get_or ends x 0)
    word longer = alone (longer_step chars ends x longer)

    -- a step of one character, which `is_ascii_alphanumeric` answers with r
    module _ (one : get_or ends x 0 ≡ x + 1) (r : Bool) (class : r ≡ ascii_letter_or_digit (get_or chars x 0)) where
      pub other_character : r ≡ false → Turn n (route_from (take n chars) ends n) x (get_or ends x 0)
      other_character e = alone (other_step chars ends x one r class e)

      pub letters : (to : ℕ) → r ≡ true → MaximalRun (letter_at chars ends) n (get_or ends x 0) to → Turn n (route_from (take n chars) ends n) x to
      unfolding route_from
      letters to e after =
          let maximal : MaximalRun (letter_at chars ends) n (x + 1) to = subst (λ (from : ℕ). MaximalRun (letter_at chars ends) n from to) one after in
          record {
            forward = omega (arith, maximal.forward);
            inside = maximal.inside;
            first =
                run route_steps x to h (letter_step chars ends x one r class e) maximal;
          }
