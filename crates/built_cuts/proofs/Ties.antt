-- `FixedInBuiltBooks`.
-- The rows of a block by the ledger (`Rows`) are a block of the route's claims, ends rising, so the choice is fixed where the score is finite
-- (`choice_is_fixed`); at a total of 0 none is (`not_finite_at_total_zero`). A path that follows the route has the steps that the cut takes: each leads
-- forward, so the fuel of `steps_from` never ends before the block does.
-- Assumes nothing.
use mathlib.Core.Path.{◌≡◌, refl, ap, subst}
use mathlib.Core.Bool.{Bool}
use mathlib.Core.List.{List, [], ◌∷◌}
use Prim.Native.Nat.{ℕ, zero, suc, ◌+◌, ◌≤◌, ◌<◌}
use native.Mathlib.Omega.{arith}
use borrow.Author.Tests.{lt-ltb, le-ltb}
use lib.ListN.{length, get_or}
use Rattle.score.specs.Logarithm.{log_float}
use Rattle.score.proofs.Tests.{by_leb}
use Rattle.book.specs.Returns.{longest_text}
use Rattle.built.specs.Ledger.{Entry, sum_of}
use Rattle.built.proofs.Claims.{total_is_sum}
use Rattle.route.specs.Route.{Best, route_of}
use Rattle.route.specs.Slices.{nowhere}
use Rattle.best_route.specs.Paths.{Word, edges_of, Forward, IsPath, Follows}
use Rattle.best_route.specs.Ties.{Finite}
use Rattle.best_route.proofs.Paths.{step_forward}
use Rattle.best_route.proofs.TotalZero.{not_finite_at_total_zero}
use Rattle.best_route.proofs.Ties.{choice_is_fixed}
use Rattle.cuts.specs.Tokens.{Span, span, steps_from}
use Rattle.built_cuts.specs.Claims.{HeldRows, spans_along, FixedFrom, FixedInBuiltBooks}
use Rattle.built_cuts.proofs.Rows.{block_words}
use Rattle.built_cuts.proofs.Routes.{rows_forward, best_route, none_in_rows}

steps_along : (rows : List (List Word)) → Forward 0 rows → (route : List Best) (fuel position : ℕ) (path : List Word)
    → IsPath rows position path
    → Follows route position path
    → length rows ≤ position + fuel
    → steps_from fuel route (length rows) position ≡ spans_along position path
unfolding steps_from
steps_along rows forward route zero position [] is_path follows near = refl
steps_along rows forward route zero position (step ∷ path) is_path follows near = absurd (omega (arith, is_path.0))
steps_along rows forward route (suc fuel) position [] is_path follows near = rw (le-ltb position (length rows) (omega arith), steps_from)
steps_along rows forward route (suc fuel) position (step ∷ path) (within, m, rest) (ends, follows) near =
    let ahead = step_forward 0 rows forward position step within m in
    rw (lt-ltb position (length rows) within, steps_from)
    (subst (λ (end : ℕ). span position end ∷ steps_from fuel route (length rows) end ≡ spans_along position (step ∷ path)) ends
    (ap (λ (spans : List Span). span position step.end ∷ spans) (steps_along rows forward route fuel step.end path rest follows (omega (arith, ahead.0)))))

pub fixed_from : (total : ℕ) (ledger : List Entry) (cs : List ℕ) (rows : List (List Word))
    → HeldRows ledger cs rows → total ≡ sum_of ledger → length cs ≤ longest_text
    → (position : ℕ) → position < length cs
    → Finite (get_or (route_of (log_float total) 0 (edges_of rows)) position nowhere).score
    → FixedFrom total cs rows position
fixed_from total ledger cs rows held sum short position inside finite =
    by_leb 1 total (λ (b : Bool). FixedFrom total cs rows position) fixed
    (λ none. absurd (not_finite_at_total_zero 0 rows (none_in_rows ledger cs rows held (omega arith)) position (omega (arith, held.positions))
    (subst (λ (t : ℕ). Finite (get_or (route_of (log_float t) 0 (edges_of rows)) position nowhere).score) (omega arith) finite)))
  where
    fixed : 1 ≤ total → FixedFrom total cs rows position
    fixed counted =
        let block = (best_route total ledger cs rows held counted short).block in
        let choice = choice_is_fixed total rows block held.rising position (omega (arith, held.positions)) finite in
        record {
          counted = counted;
          choice = choice;
          steps = subst
              (λ (n : ℕ). steps_from n (route_of (log_float total) 0 (edges_of rows)) n position ≡ spans_along position choice.taken)
              held.positions
              (steps_along rows (rows_forward ledger cs rows held) (route_of (log_float total) 0 (edges_of rows)) (length rows) position choice.taken
              choice.best.is_path choice.follows (omega arith));
        }

pub fixed_in_built_books : FixedInBuiltBooks
fixed_in_built_books b ledger by cs s short =
    let words = block_words b ledger by cs s in
    let sum = (total_is_sum b ledger by).0 in
    record {
      words = words;
      fixed = λ position inside finite. fixed_from b.head.total ledger cs words.rows words.held sum short position (omega arith) finite;
    }
