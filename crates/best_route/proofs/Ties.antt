-- `ChoiceIsFixed`: of several best paths the route's is the only one that prevails over the others.
-- Go along the route and along another best path at once. At each position the other's step has the position's score with the score at its end, since
-- nothing is higher; of the steps with that score the route's ends last (`entry_no_worse`). So the other's ends earlier, and they part; or it ends where
-- the route's does, and is the same word. Then the scores from there on are equal too: a finite sum gives its second part (`second_parts`), which minus
-- infinity would not. Two paths cannot each have the smaller end where they part, so no second path prevails.
-- Assumes nothing.
use Prim.Native.Nat.{ℕ, suc, ◌+◌, ◌≤◌, ◌<◌}
use mathlib.Core.Bool.{Bool}
use mathlib.Core.List.Memᴰ
use mathlib.Core.List.{List, [], ◌∷◌, ◌++◌, Memᴰ}
use mathlib.Core.Logic.{◌⊎◌, inl, inr, ⊎_elim}
use mathlib.Core.Path.{◌≡◌, refl, sym, ap, ◌∙◌, subst}
use native.Mathlib.Omega.{arith}
use lib.IntN.{ℤ}
use lib.ListN.{length, get_or}
use Rattle.score.specs.Scores.{Score, minus_infinity, whole, float_of}
use Rattle.score.specs.Logarithm.{log_float}
use Rattle.score.proofs.Tests.{by_leb}
use Rattle.route.specs.Route.{Best, route_of}
use Rattle.route.specs.Slices.{nowhere}
use Rattle.best_route.specs.Paths.{Word, edges_of, Forward, unreached, step_over, score_route, steps_at, IsPath, Follows, path_score}
use Rattle.best_route.specs.Claims.{Rising}
use Rattle.best_route.specs.Ties.{SmallerWherePart, IsBest, Finite, ChoiceIsFixed}
use Rattle.best_route.proofs.Order.{AtLeast, at_least_plus, at_least_both, second_parts}
use Rattle.best_route.proofs.Paths.{value, entry_no_worse, none_higher, same_entry, route_best}

-- ---- where two paths part

part_here : (step other_step : Word) (rest other_rest : List Word) → other_step.end < step.end
    → SmallerWherePart (step ∷ rest) (other_step ∷ other_rest)
part_here step other_step rest other_rest smaller = record {
  before = [];
  step = step;
  rest = rest;
  other_step = other_step;
  other_rest = other_rest;
  goes = refl;
  other_goes = refl;
  smaller = omega (arith, smaller);
}

-- one step earlier, which both have
part_later : (step : Word) (path other : List Word) → SmallerWherePart path other → SmallerWherePart (step ∷ path) (step ∷ other)
part_later step path other part = record {
  before = step ∷ part.before;
  step = part.step;
  rest = part.rest;
  other_step = part.other_step;
  other_rest = part.other_rest;
  goes = ap (λ (p : List Word). step ∷ p) part.goes;
  other_goes = ap (λ (p : List Word). step ∷ p) part.other_goes;
  smaller = part.smaller;
}

-- there is one such place, so not each of two paths has the smaller end there
one_place : (before before' : List Word) (a b c d : Word) (p q r s : List Word)
    → before ++ (a ∷ p) ≡ before' ++ (c ∷ r)
    → before ++ (b ∷ q) ≡ before' ++ (d ∷ s)
    → b.end < a.end
    → c.end < d.end
    → ⊥
one_place [] [] a b c d p q r s e f ba cd =
    let ac : a ≡ c = cc in let bd : b ≡ d = cc in omega (arith, ap (λ (w : Word). w.end) ac, ap (λ (w : Word). w.end) bd)
one_place [] (y ∷ before') a b c d p q r s e f ba cd =
    let ay : a ≡ y = cc in let by : b ≡ y = cc in omega (arith, ap (λ (w : Word). w.end) ay, ap (λ (w : Word). w.end) by)
one_place (x ∷ before) [] a b c d p q r s e f ba cd =
    let xc : x ≡ c = cc in let xd : x ≡ d = cc in omega (arith, ap (λ (w : Word). w.end) xc, ap (λ (w : Word). w.end) xd)
one_place (x ∷ before) (y ∷ before') a b c d p q r s e f ba cd =
    let later : before ++ (a ∷ p) ≡ before' ++ (c ∷ r) = cc in
    let other_later : before ++ (b ∷ q) ≡ before' ++ (d ∷ s) = cc in
    one_place before before' a b c d p q r s later other_later ba cd

pub not_both : (path other : List Word) → SmallerWherePart path other → SmallerWherePart other path → ⊥
not_both path other one two =
    one_place one.before two.before one.step one.other_step two.other_step two.step one.rest one.other_rest two.other_rest
    two.rest (sym one.goes ∙ two.other_goes) (sym one.other_goes ∙ two.goes) one.smaller two.smaller

pub parted : (path other : List Word) → SmallerWherePart path other → other ≡ path → ⊥
parted path other part same = let itself = subst (SmallerWherePart path) same part in not_both path path itself itself

-- ---- a position

-- with ends rising, a word is known by its end
same_word_lem : (row : List Word) (v w : Word) → Rising row → Memᴰ v row → Memᴰ w row → v.end ≡ w.end → v ≡ w
same_word_lem [] v w rising m n same = absurd (Memᴰ.not-nil m)
same_word_lem (u ∷ row) v w rising (Memᴰ.head e) (Memᴰ.head f) same = e ∙ sym f
same_word_lem (u ∷ row) v w rising (Memᴰ.head e) (Memᴰ.tail n) same = absurd (omega (arith, rising.0 w n, ap (λ (x : Word). x.end) e))
same_word_lem (u ∷ row) v w rising (Memᴰ.tail m) (Memᴰ.head f) same = absurd (omega (arith, rising.0 v m, ap (λ (x : Word). x.end) f))
same_word_lem (u ∷ row) v w rising (Memᴰ.tail m) (Memᴰ.tail n) same = same_word_lem row v w rising.1 m n same

steps_rise : (next : ℕ) (row : List Word) → Rising row → Rising (steps_at next row)
steps_rise next [] rising = (λ other m. absurd (Memᴰ.not-nil m), tt)
steps_rise next (w ∷ ws) rising = rising

same_step : (rows : List (List Word)) → ((k : ℕ) → Rising (get_or rows k [])) → (position : ℕ) (v w : Word)
    → Memᴰ v (steps_at (position + 1) (get_or rows position []))
    → Memᴰ w (steps_at (position + 1) (get_or rows position []))
    → v.end ≡ w.end
    → v ≡ w
same_step rows rising position v w m n same =
    same_word_lem (steps_at (position + 1) (get_or rows position [])) v w (steps_rise (position + 1) (get_or rows position []) (rising position)) m n same

-- so two paths that follow one route are the same
pub follow_same : (rows : List (List Word)) → ((k : ℕ) → Rising (get_or rows k [])) → (route : List Best) (path other : List Word) (position : ℕ)
    → IsPath rows position path → Follows route position path
    → IsPath rows position other → Follows route position other
    → path ≡ other
follow_same rows rising route [] [] position ends follows other_ends other_follows = refl
follow_same rows rising route [] (step ∷ other) position ends follows (within, m, rest) other_follows = absurd (omega arith)
follow_same rows rising route (step ∷ path) [] position (within, m, rest) follows other_ends other_follows = absurd (omega arith)
follow_same rows rising route (step ∷ path) (other_step ∷ other) position (within, m, rest) (end, follows) (inside, n, other_rest) (other_end, other_follows) =
    let same : step ≡ other_step = same_step rows rising position step other_step m n (end ∙ sym other_end) in
    let later : path ≡ other =
    follow_same rows rising route path other step.end rest follows (subst (λ (w : Word). IsPath rows w.end other) (sym same) other_rest)
    (subst (λ (w : Word). Follows route w.end other) (sym same) other_follows) in
    ap (λ (w : Word). w ∷ path) same ∙ ap (λ (p : List Word). other_step ∷ p) later

module _ (total : ℕ) (rows : List (List Word)) (forward : Forward 0 rows) (rising : (k : ℕ) → Rising (get_or rows k [])) where
  -- the first step of a best path, with the score at its end, has the position's score
  first_ties : (position : ℕ) (step : Word) (path : List Word)
      → IsPath rows position (step ∷ path)
      → path_score total (step ∷ path) ≡ value total rows position
      → step_over total step.frequency (value total rows step.end) ≡ value total rows position
  first_ties position step path (within, m, rest) score =
      at_least_both _ _
      (subst (AtLeast (step_over total step.frequency (value total rows step.end))) score
      (at_least_plus _ _ _ (none_higher total rows forward path step.end rest)))
      (entry_no_worse total rows forward position step within m).score

  -- ---- along the route and along another best path

  module _ (route : List Best)
      (same_end : (k : ℕ) → k ≤ length rows → (get_or route k nowhere).end ≡ (get_or (score_route total 0 rows) k unreached).end) where
    abbrev Compared : List Word → List Word → Type 0
    Compared other taken = (other ≡ taken) ⊎ SmallerWherePart taken other

    one_step_on : (other_step step : Word) (other taken : List Word) → other_step ≡ step → Compared other taken → Compared (other_step ∷ other) (step ∷ taken)
    one_step_on other_step step other taken same (inl equal) = inl (ap (λ (w : Word). w ∷ other) same ∙ ap (λ (p : List Word). step ∷ p) equal)
    one_step_on other_step step other taken same (inr part) =
        inr (subst (λ (w : Word). SmallerWherePart (step ∷ taken) (w ∷ other)) (sym same) (part_later step taken other part))

    -- their first steps: the other's ends earlier, or it is the same word and the rest decides
    compared_first : (position : ℕ) (z : ℤ) (other_step step : Word) (other taken : List Word)
        → IsPath rows position (other_step ∷ other)
        → path_score total (other_step ∷ other) ≡ value total rows position
        → value total rows position ≡ whole z
        → IsPath rows position (step ∷ taken)
        → step.end ≡ (get_or route position nowhere).end
        → ((y : ℤ) → IsPath rows step.end other → path_score total other ≡ value total rows step.end → value total rows step.end ≡ whole y
        → Compared other taken)
        → Compared (other_step ∷ other) (step ∷ taken)
    compared_first position z other_step step other taken (within, m, rest) score finite (inside, n, taken_rest) ends compared_rest =
        by_leb (suc other_step.end) step.end (λ (b : Bool). Compared (other_step ∷ other) (step ∷ taken))
        (λ earlier. inr (part_here step other_step taken other earlier))
        (λ not_Earlier. go_on (same_step rows rising position other_step step m n (omega (arith, no_later))))
      where
        ties : step_over total other_step.frequency (value total rows other_step.end) ≡ value total rows position
        ties = first_ties position other_step other (within, m, rest) score

        no_later : other_step.end ≤ step.end
        no_later = omega (arith, (entry_no_worse total rows forward position other_step within m).end ties, same_end position (omega arith), ends)

        go_on : other_step ≡ step → Compared (other_step ∷ other) (step ∷ taken)
        go_on same =
            let (y, other_whole, value_whole) = second_parts _ _ _ z (score ∙ finite) (ties ∙ finite) in
            let there : value total rows other_step.end ≡ value total rows step.end = ap (λ (w : Word). value total rows w.end) same in
            one_step_on other_step step other taken same
            (compared_rest y (subst (λ (w : Word). IsPath rows w.end other) same rest) (other_whole ∙ sym value_whole ∙ there) (sym there ∙ value_whole))

    compared : (other taken : List Word) (position : ℕ) (z : ℤ)
        → IsPath rows position other
        → path_score total other ≡ value total rows position
        → value total rows position ≡ whole z
        → IsPath rows position taken
        → Follows route position taken
        → Compared other taken
    compared [] [] position z other_ends score finite ends follows = inl refl
    compared [] (step ∷ taken) position z other_ends score finite (within, m, rest) follows = absurd (omega arith)
    compared (other_step ∷ other) [] position z (within, m, rest) score finite ends follows = absurd (omega arith)
    compared (other_step ∷ other) (step ∷ taken) position z other_path score finite path (end, follows) =
        compared_first position z other_step step other taken other_path score finite path end
        (λ y rest rest_score rest_finite. compared other taken step.end y rest rest_score rest_finite path.2 follows)

-- ---- the claim

finite_whole : (s : Score) → Finite (float_of s) → (z : ℤ) × (s ≡ whole z)
unfolding float_of
finite_whole minus_infinity finite = absurd finite
finite_whole (whole z) finite = (z, refl)

-- a path with the position's score is best
pub score_best : (total : ℕ) (rows : List (List Word)) → Forward 0 rows → (position : ℕ) (path : List Word)
    → IsPath rows position path
    → path_score total path ≡ value total rows position
    → IsBest total rows position path
score_best total rows forward position path is_path score = record {
  is_path = is_path;
  none_higher = λ other p. subst (λ (s : Score). AtLeast s (path_score total other)) (sym score) (none_higher total rows forward other position p);
}

pub choice_is_fixed : ChoiceIsFixed
choice_is_fixed total rows block rising position inside finite =
    record {
      taken = taken;
      follows = (route_best total rows block position inside).follows;
      attained = (route_best total rows block position inside).attained_float;
      best = taken_best;
      prevails = λ other best apart. ⊎_elim (λ same. absurd (apart same)) (λ part. part) (against other best);
      only = λ path best prevails.
          ⊎_elim
          (λ same. same)
          (λ part. absurd (not_both taken path part (prevails taken taken_best (λ same. parted taken path part (sym same)))))
          (against path best);
    }
  where
    taken : List Word
    taken = (route_best total rows block position inside).followed

    taken_path : IsPath rows position taken
    taken_path = (route_best total rows block position inside).is_path

    attained : path_score total taken ≡ value total rows position
    attained = (route_best total rows block position inside).attained

    taken_best : IsBest total rows position taken
    taken_best = score_best total rows block.forward position taken taken_path attained

    -- every best path has the position's score
    best_score : (other : List Word) → IsBest total rows position other → path_score total other ≡ value total rows position
    best_score other best =
        at_least_both _ _ (subst (AtLeast (path_score total other)) attained (best.none_higher taken taken_path))
        (none_higher total rows block.forward other position best.is_path)

    against : (other : List Word) → IsBest total rows position other → (other ≡ taken) ⊎ SmallerWherePart taken other
    against other best =
        let entry = same_entry total rows block position inside in
        let (z, value_whole) = finite_whole (value total rows position) (subst (λ (b : Best). Finite b.score) entry finite) in
        compared total rows block.forward rising (route_of (log_float total) 0 (edges_of rows))
        (λ k within. ap (λ (b : Best). b.end) (same_entry total rows block k within)) other taken position z best.is_path (best_score other best)
        value_whole taken_path (route_best total rows block position inside).follows
