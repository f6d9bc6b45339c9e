-- The positions of a block, from the right: the loop of `calc`.
-- What is kept at each turn is `Written`: the slices hold the route of the positions from i on. A turn adds the position before. Its choice asks for the
-- scores at the ends of its edges alone, which are later positions, and for the lone step at the next one; so the choice by the slice of scores is the
-- choice by the route.
-- Assumes nothing.
use Prim.Native.Nat.{ℕ, zero, suc, ◌+◌, ◌-◌, ◌≤◌, ◌<◌}
use mathlib.Core.Bool.{Bool}
use mathlib.Core.List.{List, [], ◌∷◌}
use mathlib.Core.Logic.{◌⊎◌, inl, inr}
use mathlib.Core.Path.{◌≡◌, refl, sym, ap, ◌∙◌, subst}
use native.Mathlib.Nat.{le_refl, sub-zero, sub_self}
use native.Mathlib.Omega.{arith}
use lib.Ieee.{Float, nan}
use lib.ListN.{length, get_or, set, length-set}
use lib.Seq.{get_or-set_same, get_or-set_other}
use Rattle.score.proofs.Tests.{by_leb}
use Rattle.route.specs.declared.Choice.{Choice as CodeChoice}
use Rattle.route.specs.declared.Choice.TheVariants.{NoEdge, Best as BestEdge}
use Rattle.route.specs.declared.RouteEntry.{RouteEntry}
use Rattle.route.specs.Route.{Best, Choice, no_edge, best_edge, zero_float, step_score, chosen, score_at, choose, settled, route_of}
use Rattle.route.specs.Slices.{nowhere, as_best, as_choice, no_record, record_of, with_scores, edges_from, edges_at, rows_from, rows_of}
use Rattle.route.specs.Slices.{EdgeOf, EdgesFit, PlacesFit, OneOf, chosen_from, ChosenOf, KeptFor, KeepsRoute}
use Rattle.route.proofs.Choices.{score_at_start}
use Rattle.calc.proofs.Edges.{score_of}

-- ---- two routes with the same scores

choose_same : (ends records : List ℕ) (logarithms : List Float) (log_total : Float) (route other : List Best) (from from' place count : ℕ) (c : Choice)
    → ((p : ℕ) → place ≤ p → p < place + count → score_at route from (get_or ends p 0) ≡ score_at other from' (get_or ends p 0))
    → choose log_total route from (edges_from ends records logarithms place count) c
    ≡ choose log_total other from' (edges_from ends records logarithms place count) c
unfolding choose edges_from
choose_same ends records logarithms log_total route other from from' place zero c same = refl
choose_same ends records logarithms log_total route other from from' place (suc count) c same =
    ap
    (λ (s : Float).
    choose log_total route from (edges_from ends records logarithms (place + 1) count)
    (chosen c (record { score = step_score (get_or logarithms (get_or records place 0) nan) log_total s; end = get_or ends place 0 })))
    (same place (le_refl place) (omega arith))
    ∙ choose_same ends records logarithms log_total route other from from' (place + 1) count _ (λ p h l. same p (omega arith) (omega arith))

settled_same : (log_total : Float) (route other : List Best) (next : ℕ) (c : Choice)
    → score_at route next next ≡ score_at other next next
    → settled log_total route next c ≡ settled log_total other next c
settled_same log_total route other next no_edge same = ap (λ (s : Float). record { score = step_score zero_float log_total s; end = next }) same
settled_same log_total route other next (best_edge b) same = refl

-- ---- one position more, in front

-- what holds at i and behind it
from_here : (P : ℕ → Type 0) (i next : ℕ) → next ≡ i + 1 → P i → ((k : ℕ) → next ≤ k → P k) → (k : ℕ) → i ≤ k → P k
from_here P i next one here behind k first =
    by_leb next k (λ (t : Bool). P k) (behind k) (λ h. let same : i ≡ k = omega arith in subst P same here)

-- a slice holds a field of each entry of a route, from the position i up to n
abbrev Holds : {A : Type 0} → (Best → A) → A → ℕ → List A → ℕ → List Best → Type 0
Holds field d n xs i route = (k : ℕ) → i ≤ k → k ≤ n → get_or xs k d ≡ field (get_or route (k - i) nowhere)

holds_more : {A : Type 0} (field : Best → A) (d : A) (n : ℕ) (xs : List A) (i next : ℕ) (b : Best) (rest : List Best)
    → next ≡ i + 1
    → i < length xs
    → Holds field d n xs next rest
    → Holds field d n (set xs i (field b)) i (b ∷ rest)
holds_more field d n xs i next b rest one within held = from_here (λ (k : ℕ). k ≤ n → Held k) i next one (λ last. here) behind
  where
    Held : ℕ → Type 0
    Held k = get_or (set xs i (field b)) k d ≡ field (get_or (b ∷ rest) (k - i) nowhere)

    here : Held i
    here = get_or-set_same xs i (field b) d within ∙ ap (λ (j : ℕ). field (get_or (b ∷ rest) j nowhere)) (sym (sub_self i))

    behind : (k : ℕ) → next ≤ k → k ≤ n → Held k
    behind k further last =
        let other : k ≡ i → ⊥ = omega arith in
        let skipped : suc (k - next) ≡ k - i = omega arith in
        get_or-set_other xs i k (field b) d other ∙ held k further last ∙ ap (λ (j : ℕ). field (get_or (b ∷ rest) j nowhere)) skipped

-- ---- the loop

module _ (starts edge_ends edge_records : List ℕ) (logarithms : List Float) (log_total : Float) (n : ℕ) where
  -- the route of the positions from i on
  unfoldable pub route_from : ℕ → List Best
  route_from i = route_of log_total i (rows_from starts edge_ends edge_records logarithms i (n - i))

  pub record Written (i : ℕ) (scores : List Float) (ends records : List ℕ) : Type 0 where
    pub inside : i ≤ n
    pub scores_long : n < length scores
    pub ends_long : n < length ends
    pub records_long : n < length records
    pub score : Holds {A = Float} (λ b. b.score) nan n scores i (route_from i)
    pub end : Holds {A = ℕ} (λ b. b.end) 0 n ends i (route_from i)
    pub number : (k : ℕ) → i ≤ k → k < n → KeptFor starts edge_ends edge_records k (get_or ends k 0) (get_or records k 0)

  -- ---- where the loop begins: the block's end

  route_end : route_from n ≡ record { score = zero_float; end = n } ∷ []
  unfolding route_from route_of rows_from
  route_end = rw (sub_self n)

  pub write_end : (scores : List Float) (ends records : List ℕ) (score : Float)
      → score ≡ zero_float
      → n < length scores
      → n < length ends
      → n < length records
      → Written n (set scores n score) (set ends n n) (set records n no_record)
  write_end scores ends records score is_zero scores_long ends_long records_long =
      record {
        inside = le_refl n;
        scores_long = simp length-set scores_long;
        ends_long = simp length-set ends_long;
        records_long = simp length-set records_long;
        score =
            rw (is_zero, route_end)
            (holds_more {A = Float} (λ b. b.score) nan n scores n (n + 1) _ [] refl scores_long (λ k first last. absurd (omega arith)));
        end = rw route_end (holds_more {A = ℕ} (λ b. b.end) 0 n ends n (n + 1) _ [] refl ends_long (λ k first last. absurd (omega arith)));
        number = λ k first last. absurd (omega arith);
      }

  -- ---- a turn: the position i, before the position `next`

  module _ (i next : ℕ) (fit : EdgesFit starts edge_ends edge_records (length logarithms) n) (one : next ≡ i + 1) where
    to_next : get_or starts next 0 ≡ get_or starts (i + 1) 0
    to_next = ap (λ (k : ℕ). get_or starts k 0) one

    edge_of : (place : ℕ) → get_or starts i 0 ≤ place → place < get_or starts next 0 → EdgeOf starts i place
    edge_of place first last = record { first = first; last = omega (arith, to_next) }

    -- what `best_of` requires
    pub places_fit : (scores : List Float)
        → next ≤ n
        → n < length scores
        → PlacesFit edge_ends edge_records (length scores) (length logarithms) (get_or starts i 0) (get_or starts next 0)
    places_fit scores inside long =
        let within : i < n = omega arith in
        record {
          rising = omega (arith, to_next, fit.rising i within);
          in_ends = fit.in_ends next inside;
          in_records = fit.in_records next inside;
          scored = λ place first last. omega (arith, fit.inside i place within (edge_of place first last));
          known = λ place first last. fit.known i place within (edge_of place first last);
        }

    route_step : next ≤ n
        → route_from i
        ≡ settled log_total (route_from next) next (choose log_total (route_from next) next (edges_at starts edge_ends edge_records logarithms i) no_edge)
        ∷ route_from next
    unfolding route_from route_of rows_from
    route_step last = let further : n - i ≡ suc (n - next) = omega arith in rw (further, one)

    module _ (scores : List Float) (ends records : List ℕ) (choice : CodeChoice) (entry : RouteEntry)
        (written : Written next scores ends records)
        (chose : as_choice choice ≡ chosen_from edge_ends edge_records logarithms scores log_total (get_or starts i 0) (get_or starts next 0))
        (member : ChosenOf edge_ends edge_records (get_or starts i 0) (get_or starts next 0) choice)
        (best : as_best entry ≡ settled log_total (with_scores (get_or scores next nan ∷ [])) next (as_choice choice))
        (number : entry.«record» ≡ record_of choice) where
      within : i < n
      within = omega (arith, written.inside)

      -- the scores at the ends of the position's edges
      same_scores : (place : ℕ)
          → get_or starts i 0 ≤ place
          → place < get_or starts i 0 + (get_or starts (i + 1) 0 - get_or starts i 0)
          → score_at (with_scores scores) 0 (get_or edge_ends place 0) ≡ score_at (route_from next) next (get_or edge_ends place 0)
      same_scores place first last =
          let edge : EdgeOf starts i place = record { first = first; last = omega (arith, fit.rising i within) } in
          score_of scores (get_or edge_ends place 0)
          ∙ written.score (get_or edge_ends place 0) (omega (arith, fit.forward i place within edge)) (fit.inside i place within edge)

      same_choice : as_choice choice ≡ choose log_total (route_from next) next (edges_at starts edge_ends edge_records logarithms i) no_edge
      same_choice = (rw to_next at chose) ∙ choose_same edge_ends edge_records logarithms log_total (with_scores scores) (route_from next)
          0 next _ _ no_edge same_scores

      -- the score at the next position
      same_next : score_at (with_scores (get_or scores next nan ∷ [])) next next ≡ score_at (route_from next) next next
      same_next = score_at_start (with_scores (get_or scores next nan ∷ [])) next ∙ written.score next (le_refl next) written.inside

      same_route : route_from i ≡ as_best entry ∷ route_from next
      same_route =
          route_step written.inside
          ∙ ap (λ (b : Best). b ∷ route_from next)
          (sym
          (best
          ∙ settled_same log_total (with_scores (get_or scores next nan ∷ [])) (route_from next) next (as_choice choice) same_next
          ∙ ap (settled log_total (route_from next) next) same_choice))

      kept_here : (choice : CodeChoice) (from to : ℕ)
          → ChosenOf edge_ends edge_records from to choice
          → as_best entry ≡ settled log_total (with_scores (get_or scores next nan ∷ [])) next (as_choice choice)
          → entry.«record» ≡ record_of choice
          → ((from ≡ to) × (entry.end ≡ i + 1) × (entry.«record» ≡ no_record)) ⊎ OneOf edge_ends edge_records from to entry.end entry.«record»
      kept_here NoEdge from to member best number = inl (member, ap (λ (b : Best). b.end) best ∙ one, number)
      kept_here (BestEdge score end n) from to member best number = inr (rw (ap (λ (b : Best). b.end) best, number) member)

      number_more : (k : ℕ) → i ≤ k → k < n → KeptFor starts edge_ends edge_records k (get_or (set ends i entry.end) k 0)
          (get_or (set records i entry.«record») k 0)
      number_more = from_here (λ (k : ℕ). k < n → Kept k) i next one (λ last. here) behind
        where
          Kept : ℕ → Type 0
          Kept k = KeptFor starts edge_ends edge_records k (get_or (set ends i entry.end) k 0) (get_or (set records i entry.«record») k 0)

          here : Kept i
          here =
              let end = get_or-set_same ends i entry.end 0 (omega (arith, written.ends_long)) in
              let n = get_or-set_same records i entry.«record» 0 (omega (arith, written.records_long)) in
              rw (end, n, ← to_next) (kept_here choice (get_or starts i 0) (get_or starts next 0) member best number)

          behind : (k : ℕ) → next ≤ k → k < n → Kept k
          behind k further last =
              let other : k ≡ i → ⊥ = omega arith in
              let end = get_or-set_other ends i k entry.end 0 other in
              let n = get_or-set_other records i k entry.«record» 0 other in
              rw (end, n) (written.number k further last)

      pub write_position : Written i (set scores i entry.score) (set ends i entry.end) (set records i entry.«record»)
      write_position =
          record {
            inside = omega (arith, within);
            scores_long = simp length-set written.scores_long;
            ends_long = simp length-set written.ends_long;
            records_long = simp length-set written.records_long;
            score =
                rw same_route
                (holds_more {A = Float} (λ b. b.score) nan n scores i next (as_best entry) (route_from next) one
                (omega (arith, written.scores_long)) written.score);
            end =
                rw same_route
                (holds_more {A = ℕ} (λ b. b.end) 0 n ends i next (as_best entry) (route_from next) one
                (omega (arith, written.ends_long)) written.end);
            number = number_more;
          }

  -- ---- where the loop ends: the block's start

  pub write_start : (i : ℕ) (scores : List Float) (ends records : List ℕ)
      → i ≡ 0
      → Written i scores ends records
      → KeepsRoute starts edge_ends edge_records logarithms log_total n scores ends records
  unfolding route_from
  write_start i scores ends records start written =
      record {
        score = λ k last. written.score k (omega arith) last ∙ ap (λ (b : Best). b.score) (same k);
        end = λ k last. written.end k (omega arith) last ∙ ap (λ (b : Best). b.end) (same k);
        number = λ k last. written.number k (omega arith) last;
      }
    where
      same : (k : ℕ) → get_or (route_from i) (k - i) nowhere ≡ get_or (route_of log_total 0 (rows_of starts edge_ends edge_records logarithms n)) k nowhere
      same k = rw (start, sub-zero n, sub-zero k)
