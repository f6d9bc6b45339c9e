-- "no cut meets damage there": a cut answers 8 for its head, or for a walk that met damage. Where the tests found no damage and no walk meets any, no
-- cut answers 8, whatever else stops it.
-- Assumes nothing.
use Rattle.std.specs.Prelude.{Ok, Err}
use mathlib.Core.Path.{◌≡◌, refl, ap}
use mathlib.Core.Bool.{Bool, true, false, cond, ◌&&◌}
use mathlib.Core.List.{List, [], ◌∷◌}
use mathlib.Core.Logic.{◌≢◌}
use mathlib.Core.Option.{Option, none, some}
use Prim.Native.Nat.{ℕ, ◌+◌, ◌-◌, ◌%◌}
use native.Mathlib.Omega.{arith}
use lib.Dec.{eqb, leb, ltb}
use lib.Ieee.{Float}
use lib.ListN.{length}
use Rattle.utf8.specs.Text.{chars_of}
use Rattle.score.specs.Logarithm.{log_float}
use Rattle.book.specs.declared.Refusal.TheVariants.{BadAreas, TooLong, Malformed, Damaged, WorkTooShort, EdgesFull, TokensFull}
use Rattle.book.specs.Returns.{number_of, is_done, longest_text, Outcome}
use Rattle.book.specs.Prefixes.{Edge, Walked}
use Rattle.cuts.specs.Blocks.{Block}
use Rattle.cuts.specs.Edges.{Vocabulary, walks_of, Edges, edges, stopped, before, edges_within}
use Rattle.cuts.specs.Tokens.{Span, Base, Written, written, put, has_place, token_of, token_width}
use Rattle.cuts.specs.Cuts.{CutAnswer, answer, and_then, put_spans, cut_edges, cut_block, search_edges, search_block, spans_of, put_walks, cut_all_block}
use Rattle.cuts.specs.Cuts.{behind, cut_blocks, Tested, cut_chars, cut_with}
use Rattle.cuts.proofs.Sequence.{goes_on, stops}

abbrev pub Fine : CutAnswer → Type 0
Fine a = a.outcome ≢ (Err Damaged)

-- an outcome with another number
other : (o : Outcome) → (number_of o ≡ 8 → ⊥) → o ≢ (Err Damaged)
other o differs e = differs (ap number_of e)

fine_then : (a : CutAnswer) (next : Written → CutAnswer) → Fine a → ((w : Written) → Fine (next w)) → Fine (and_then a next)
fine_then a next f g = by (is_done a.outcome) refl
  where
    by : (z : Bool) → is_done a.outcome ≡ z → Fine (and_then a next)
    by true z = rw (goes_on a next z) (g a.written)
    by false z = rw (stops a next z) f

-- ---- tokens

fine_spans : (base : Base) (chars : List ℕ) (ss : List Span) (w : Written) → Fine (put_spans base chars w ss)
unfolding put_spans
fine_spans base chars [] w = other (Ok tt) (λ z. omega arith)
fine_spans base chars (s ∷ ss) w = by (fine_spans base chars ss (put w (token_of base chars s))) (has_place w)
  where
    by : Fine (put_spans base chars (put w (token_of base chars s)) ss) → (t : Bool)
        → Fine (elim t [ true ↦ put_spans base chars (put w (token_of base chars s)) ss | false ↦ answer (Err TokensFull) w ])
    by rest true = rest
    by rest false = other (Err TokensFull) (λ z. omega arith)

-- ---- walks without damage

module _ (words : ℕ → List ℕ → Walked) (sound : (at : ℕ) (cs : List ℕ) → (words at cs).damaged ≡ false) where
  abbrev FineEdges : Edges → Type 0
  FineEdges (edges rows) = Unit {0}
  FineEdges (stopped o) = o ≢ (Err Damaged)

  fine_before : (es : List Edge) (e : Edges) → FineEdges e → FineEdges (before es e)
  fine_before es (edges rows) f = tt
  fine_before es (stopped o) f = f

  fine_edges : (at : ℕ) (cs : List ℕ) (room : ℕ) → FineEdges (edges_within room (walks_of words at cs))
  unfolding edges_within walks_of
  fine_edges at [] room = tt
  fine_edges at (c ∷ cs) room = by (fine_edges (at + 1) cs (room - length (words at (c ∷ cs)).edges)) (ltb room (length (words at (c ∷ cs)).edges))
    where
      by : FineEdges (edges_within (room - length (words at (c ∷ cs)).edges) (walks_of words (at + 1) cs)) → (t : Bool) → FineEdges (elim t [
        | true ↦ stopped (Err EdgesFull)
        | false ↦ elim (words at (c ∷ cs)).damaged [
          | true ↦ stopped (Err Damaged)
          | false ↦ before (words at (c ∷ cs)).edges (edges_within (room - length (words at (c ∷ cs)).edges) (walks_of words (at + 1) cs))
        ]
      ])
      by rest true = other (Err EdgesFull) (λ z. omega arith)
      by rest false = rw (sound at (c ∷ cs)) (fine_before (words at (c ∷ cs)).edges
          (edges_within (room - length (words at (c ∷ cs)).edges) (walks_of words (at + 1) cs)) rest)

  fine_walks : (base : Base) (chars cs : List ℕ) (at from : ℕ) (w : Written) → Fine (put_walks base chars from w (walks_of words at cs))
  unfolding put_walks walks_of
  fine_walks base chars [] at from w = other (Ok tt) (λ z. omega arith)
  fine_walks base chars (c ∷ cs) at from w =
      fine_then (put_spans base chars w (spans_of from (words at (c ∷ cs)).edges))
      (λ (v : Written). cond (words at (c ∷ cs)).damaged (answer (Err Damaged) v) (put_walks base chars (from + 1) v (walks_of words (at + 1) cs)))
      (fine_spans base chars (spans_of from (words at (c ∷ cs)).edges) w)
      (λ v. rw (sound at (c ∷ cs)) (fine_walks base chars cs (at + 1) (from + 1) v))

-- ---- blocks

module _ (v : Vocabulary) (sound : (at : ℕ) (cs : List ℕ) → (v.words at cs).damaged ≡ false) where
  fine_cut_edges : (log_total : Float) (base : Base) (chars : List ℕ) (w : Written) (e : Edges) → FineEdges v.words sound e
      → Fine (cut_edges log_total base chars w e)
  fine_cut_edges log_total base chars w (edges rows) f = fine_spans base chars _ w
  fine_cut_edges log_total base chars w (stopped o) f = f

  fine_search_edges : (log_total : Float) (base : Base) (chars : List ℕ) (w : Written) (e : Edges) → FineEdges v.words sound e
      → Fine (search_edges log_total base chars w e)
  fine_search_edges log_total base chars w (edges rows) f = fine_spans base chars _ w
  fine_search_edges log_total base chars w (stopped o) f = f

  pub fine_cut : (room : ℕ) (base : Base) (b : Block) (w : Written) → Fine (cut_block v room base b w)
  unfolding cut_block
  fine_cut room base b w = by b.matched
    where
      by : (m : Bool) → Fine (cut_block v room base (record { matched = m; chars = b.chars }) w)
      by true = fine_cut_edges (log_float v.total) base b.chars w (edges_within room (walks_of v.words 0 b.chars))
          (fine_edges v.words sound 0 b.chars room)
      by false = fine_spans base b.chars _ w

  pub fine_search : (room : ℕ) (base : Base) (b : Block) (w : Written) → Fine (search_block v room base b w)
  unfolding search_block
  fine_search room base b w = by b.matched
    where
      by : (m : Bool) → Fine (search_block v room base (record { matched = m; chars = b.chars }) w)
      by true = fine_search_edges (log_float v.total) base b.chars w (edges_within room (walks_of v.words 0 b.chars))
          (fine_edges v.words sound 0 b.chars room)
      by false = fine_spans base b.chars _ w

  pub fine_all : (base : Base) (b : Block) (w : Written) → Fine (cut_all_block v base b w)
  unfolding cut_all_block
  fine_all base b w = by b.matched
    where
      by : (m : Bool) → Fine (cut_all_block v base (record { matched = m; chars = b.chars }) w)
      by true = fine_walks v.words sound base b.chars b.chars 0 0 w
      by false = fine_spans base b.chars _ w

pub fine_blocks : (one : Base → Block → Written → CutAnswer) → ((base : Base) (b : Block) (w : Written) → Fine (one base b w))
    → (bs : List Block) (base : Base) (w : Written) → Fine (cut_blocks one base bs w)
unfolding cut_blocks
fine_blocks one fine [] base w = other (Ok tt) (λ z. omega arith)
fine_blocks one fine (b ∷ bs) base w =
    let next : Base = behind base b.chars in
    fine_then (one base b w) (cut_blocks one next bs) (fine base b w) (fine_blocks one fine bs next)

-- ---- the tests before

pub fine_tests : (t : Tested) (work : ℕ) (area sentence : List ℕ) (cutting : List ℕ → Written → CutAnswer) → t.damage ≡ false
    → ((cs : List ℕ) (w : Written) → Fine (cutting cs w)) → Fine (cut_with t work area cutting sentence)
unfolding cut_with
fine_tests t work area sentence cutting sound fine = by_sizes (t.sizes && eqb (length area % token_width) 0)
  where
    by_work : (cs : List ℕ) (z : Bool) → Fine (cond z (answer (Err WorkTooShort) (written 0 area))
        (cond t.damage (answer (Err Damaged) (written 0 area)) (cutting cs (written 0 area))))
    by_work cs true = other (Err WorkTooShort) (λ z. omega arith)
    by_work cs false = rw sound (fine cs (written 0 area))

    by_chars : (cs : Option (List ℕ)) → Fine (cut_chars t work cutting (written 0 area) cs)
    by_chars none = other (Err Malformed) (λ z. omega arith)
    by_chars (some cs) = by_work cs (ltb work (length cs + 1))

    by_length : (z : Bool) → Fine (cond z (cut_chars t work cutting (written 0 area) (chars_of sentence)) (answer (Err TooLong) (written 0 area)))
    by_length true = by_chars (chars_of sentence)
    by_length false = other (Err TooLong) (λ z. omega arith)

    by_sizes : (z : Bool)
        → Fine (cond z (cond (leb (length sentence) longest_text) (cut_chars t work cutting (written 0 area) (chars_of sentence))
        (answer (Err TooLong) (written 0 area))) (answer (Err BadAreas) (written 0 area)))
    by_sizes true = by_length (leb (length sentence) longest_text)
    by_sizes false = other (Err BadAreas) (λ z. omega arith)
