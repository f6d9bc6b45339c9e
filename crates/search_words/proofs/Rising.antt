-- The ends of a position's edges rise: each further step of a walk ends one character further on. So the edges that a block's walks leave in the slices are
-- as `word_at` wants them.
-- Assumes nothing.
use Rattle.std.specs.Prelude.{Err}
use Prim.Native.Nat.{ℕ, zero, suc, ◌+◌, ◌-◌, ◌≤◌, ◌<◌}
use mathlib.Core.Bool.{Bool, true, false}
use mathlib.Core.List.{List, [], ◌∷◌}
use mathlib.Core.Path.{◌≡◌, ap, ◌∙◌, subst}
use native.Mathlib.Omega.{arith}
use lib.Dec.{ltb}
use lib.Ieee.{Float}
use lib.ListN.{length, get_or}
use Rattle.std.specs.Prelude.{Ok, Err, Some, None}
use Rattle.score.proofs.Tests.{by_leb}
use Rattle.trie.specs.declared.ParentRef.{ParentRef}
use Rattle.trie.specs.declared.ParentRef.TheVariants.{Root}
use Rattle.trie.specs.Trie.{tested_step, word_at, Step, WordNumber}
use Rattle.book.specs.declared.Refusal.TheVariants.{EdgesFull}
use Rattle.book.specs.declared.Refusal.TheVariants as Refusal
use Rattle.book.specs.Returns.{Book}
use Rattle.book.specs.Prefixes.{Edge, Walked, ended, broken, met_before, walk_on, words_from}
use Rattle.route.specs.Slices.{edges_from, rows_of, EdgesFit}
use Rattle.cuts.specs.Edges.{Edges, edges, stopped, before, walks_of, edges_within}
use Rattle.search_words.specs.Rising.{EndsRise}
use Rattle.search_words.proofs.Words.{row_at}

-- each edge ends behind the one before it, and the first behind a position
abbrev RisingFrom : ℕ → List Edge → Type 0
RisingFrom a [] = Unit {0}
RisingFrom a (e ∷ es) = (a < e.end) × RisingFrom e.end es

earlier : (a b : ℕ) (es : List Edge) → a ≤ b → RisingFrom b es → RisingFrom a es
earlier a b [] h rise = tt
earlier a b (e ∷ es) h rise = (omega (arith, rise.0), rise.1)

-- ---- a walk

met_rises : (b : Book) (number : WordNumber) (at : ℕ) (w : Walked) → RisingFrom (at + 1) w.edges → RisingFrom at (met_before b number (at + 1) w).edges
met_rises b (Ok None) at w rise = earlier at (at + 1) w.edges (omega arith) rise
met_rises b (Ok (Some n)) at w rise = (omega arith, rise)
met_rises b (Err d) at w rise = tt

walk_rises : (b : Book) (p : ParentRef) (at : ℕ) (cs : List ℕ) → RisingFrom at (walk_on b p at cs).edges
unfolding walk_on
walk_rises b p at [] = tt
walk_rises b p at (c ∷ cs) = by (tested_step b.trie p c) (λ q. walk_rises b q (at + 1) cs)
  where
    by : (s : Step) → ((q : ParentRef) → RisingFrom (at + 1) (walk_on b q (at + 1) cs).edges)
        → RisingFrom at (elim s as (λ _. Walked) [
          | Ok (Some q) ↦ met_before b (word_at b.head.records b.trie q) (at + 1) (walk_on b q (at + 1) cs)
          | Ok None ↦ ended
          | Err d ↦ broken
        ]).edges
    by (Ok (Some q)) next = met_rises b (word_at b.head.records b.trie q) at (walk_on b q (at + 1) cs) (next q)
    by (Ok None) next = tt
    by (Err d) next = tt

-- ---- the walks of a block

AllRise : ℕ → List Walked → Type 0
AllRise at [] = Unit {0}
AllRise at (w ∷ ws) = RisingFrom at w.edges × AllRise (at + 1) ws

walks_rise : (b : Book) (at : ℕ) (cs : List ℕ) → AllRise at (walks_of (words_from b) at cs)
unfolding AllRise walks_of words_from
walks_rise b at [] = tt
walks_rise b at (c ∷ cs) = (walk_rises b Root at (c ∷ cs), walks_rise b (at + 1) cs)

-- the rows, where nothing stopped the walks
abbrev rows_in : Edges → List (List Edge)
rows_in (edges rows) = rows
rows_in (stopped o) = []

row_first : (at : ℕ) (es : List Edge) (x : Edges) → RisingFrom at es → RisingFrom at (get_or (rows_in (before es x)) 0 [])
row_first at es (edges rows) rise = rise
row_first at es (stopped o) rise = tt

row_later : (at k : ℕ) (es : List Edge) (x : Edges) → RisingFrom at (get_or (rows_in x) k []) → RisingFrom at (get_or (rows_in (before es x)) (suc k) [])
row_later at k es (edges rows) rise = rise
row_later at k es (stopped o) rise = tt

rows_rise : (ws : List Walked) (at room k : ℕ) → AllRise at ws → RisingFrom (at + k) (get_or (rows_in (edges_within room ws)) k [])
unfolding AllRise edges_within
rows_rise [] at room k all = tt
rows_rise (w ∷ ws) at room k all = by (ltb room (length w.edges)) w.damaged k (λ j. rows_rise ws (at + 1) (room - length w.edges) j all.1)
  where
    rest : Edges
    rest = edges_within (room - length w.edges) ws

    row : (k : ℕ) → ((j : ℕ) → RisingFrom (at + 1 + j) (get_or (rows_in rest) j [])) → RisingFrom (at + k) (get_or (rows_in (before w.edges rest)) k [])
    row zero next = let here : at ≡ at + 0 = omega arith in
        subst (λ (i : ℕ). RisingFrom i (get_or (rows_in (before w.edges rest)) 0 [])) here (row_first at w.edges rest all.0)
    row (suc k) next =
        let there : at + 1 + k ≡ at + suc k = omega arith in
        subst (λ (i : ℕ). RisingFrom i (get_or (rows_in (before w.edges rest)) (suc k) [])) there (row_later (at + 1 + k) k w.edges rest (next k))

    by : (full damaged : Bool) (k : ℕ) → ((j : ℕ) → RisingFrom (at + 1 + j) (get_or (rows_in rest) j []))
        → RisingFrom (at + k)
        (get_or
        (rows_in (elim full as (λ _. Edges) [
          | true ↦ stopped (Err EdgesFull)
          | false ↦ elim damaged as (λ _. Edges) [ true ↦ stopped (Err Refusal.Damaged) | false ↦ before w.edges rest ]
        ]))
        k [])
    by true damaged k next = tt
    by false true k next = tt
    by false false k next = row k next

-- ---- in the slices

places_rise : (ends records : List ℕ) (logarithms : List Float) (count from a : ℕ) → RisingFrom a (edges_from ends records logarithms from count)
    → (place : ℕ) → from ≤ place → place + 1 < from + count → get_or ends place 0 < get_or ends (place + 1) 0
unfolding edges_from
places_rise ends records logarithms zero from a rise place first last = absurd (omega arith)
places_rise ends records logarithms (suc zero) from a rise place first last = absurd (omega arith)
places_rise ends records logarithms (suc (suc count)) from a rise place first last =
    by_leb (from + 1) place (λ (t : Bool). get_or ends place 0 < get_or ends (place + 1) 0)
    (λ h. places_rise ends records logarithms (suc count) (from + 1) (get_or ends from 0) rise.1 place h (omega arith))
    (λ h. let here : from ≡ place = omega arith in subst (λ (i : ℕ). get_or ends i 0 < get_or ends (i + 1) 0) here rise.1.0)

-- what the walks of a block leave in the slices
pub ends_rise : (b : Book) (room : ℕ) (cs starts ends records : List ℕ) (logarithms : List Float) (known n : ℕ)
    → edges_within room (walks_of (words_from b) 0 cs) ≡ edges (rows_of starts ends records logarithms n)
    → EdgesFit starts ends records known n
    → EndsRise starts ends n
ends_rise b room cs starts ends records logarithms known n walked fit i h =
    let rise : RisingFrom (0 + i) (get_or (rows_in (edges_within room (walks_of (words_from b) 0 cs))) i []) =
    rows_rise (walks_of (words_from b) 0 cs) 0 room i (walks_rise b 0 cs) in
    let in_row : RisingFrom (0 + i) (edges_from ends records logarithms (get_or starts i 0) (get_or starts (i + 1) 0 - get_or starts i 0)) =
    subst (RisingFrom (0 + i)) (ap (λ (x : Edges). get_or (rows_in x) i []) walked ∙ row_at starts ends records logarithms n i h) rise in
    record {
      inside = fit.in_ends (i + 1) (omega arith);
      further = λ place first last.
          places_rise ends records logarithms (get_or starts (i + 1) 0 - get_or starts i 0) (get_or starts i 0) (0 + i) in_row place first (omega arith);
    }

-- of a block's first characters as of all of them
pub rise_to : (starts ends : List ℕ) (n y : ℕ) → y ≤ n → EndsRise starts ends n → EndsRise starts ends y
rise_to starts ends n y inside rise i h = rise i (omega arith)
