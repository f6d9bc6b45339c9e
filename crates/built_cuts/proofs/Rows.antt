-- The words of a block by the ledger, as rows: for each position the beginnings of what follows that the ledger has, ends rising. In a book built by
-- calls the walk from each position meets exactly these (`walk_as_ledger`), so the block's edges are theirs, and its cuts go by them.
-- Assumes nothing.
use Rattle.std.specs.Prelude.{Err}
use mathlib.Core.Path.{◌≡◌, refl, sym, ap, ◌∙◌, subst}
use mathlib.Core.Bool.{Bool, true, false, cond}
use mathlib.Core.List.Memᴰ
use mathlib.Core.List.{List, [], ◌∷◌, ◌++◌, append_assoc, map, Memᴰ}
use mathlib.Core.Logic.{⊎_elim}
use mathlib.Core.Option.{Option, none, some}
use Prim.Native.Nat.{ℕ, zero, suc, ◌+◌, ◌-◌, ◌≤◌}
use native.Mathlib.Omega.{arith}
use borrow.Author.Tests.{leb-true, leb-false, ltb-true, ltb-false, le-leb, lt-leb}
use lib.Dec.{leb, ltb}
use lib.ListN.{length, get_or, take, drop, length-drop, length-map}
use Rattle.utf8.specs.Encoding.{Scalars}
use Rattle.score.specs.Logarithm.{log_float}
use Rattle.book.specs.declared.Refusal.TheVariants.{EdgesFull}
use Rattle.book.specs.Returns.{Book}
use Rattle.book.specs.Prefixes.{Edge, words_from}
use Rattle.built.specs.Ledger.{Entry, frequency_in, edge_before, words_after, ledger_words}
use Rattle.built.specs.Calls.{BuiltByCalls}
use Rattle.built.proofs.Claims.{walk_as_ledger}
use Rattle.best_route.specs.Paths.{Word, edge_of, edges_of}
use Rattle.best_route.specs.Claims.{Rising}
use Rattle.cuts.specs.Edges.{walks_of, Edges, edges, stopped, before, edges_within}
use Rattle.cuts.specs.Cuts.{CutAnswer, cut_edges, cut_block, search_edges, search_block}
use Rattle.built_cuts.specs.Claims.{HeldRows, word_count, met, WalksMeet, GoesByRows, BlockWords}

-- ---- the words from a position

-- a word that ends here, with its frequency, before the words that end later
abbrev word_before : ℕ → Option ℕ → List Word → List Word
word_before end none ws = ws
word_before end (some frequency) ws = record { end = end; frequency = frequency } ∷ ws

module _ (ledger : List Entry) where
  -- the words that begin with the characters read so far, and end after one or more of those that follow
  unfoldable pub held_after : List ℕ → ℕ → List ℕ → List Word
  held_after read at [] = []
  held_after read at (c ∷ cs) = word_before (at + 1) (frequency_in ledger (read ++ (c ∷ []))) (held_after (read ++ (c ∷ [])) (at + 1) cs)

  -- their edges are those of the ledger's walk
  edges_before : (end : ℕ) (o : Option ℕ) (ws : List Word) (es : List Edge) → map edge_of ws ≡ es → map edge_of (word_before end o ws) ≡ edge_before end o es
  edges_before end none ws es e = e
  edges_before end (some frequency) ws es e = ap (λ (rest : List Edge). edge_of (record { end = end; frequency = frequency }) ∷ rest) e

  edges_after : (cs read : List ℕ) (at : ℕ) → map edge_of (held_after read at cs) ≡ words_after ledger read at cs
  unfolding held_after words_after
  edges_after [] read at = refl
  edges_after (c ∷ cs) read at = edges_before (at + 1) (frequency_in ledger (read ++ (c ∷ []))) _ _ (edges_after cs (read ++ (c ∷ [])) (at + 1))

  -- a word that begins with the characters read, and ends so many of the following ones later
  record Ending (read : List ℕ) (at : ℕ) (cs : List ℕ) (w : Word) : Type 0 where
    size : ℕ
    one_or_more : 1 ≤ size
    inside : size ≤ length cs
    ends : w.end ≡ at + size
    entered : frequency_in ledger (read ++ take size cs) ≡ some w.frequency

  -- one character further on
  ending_later : (read : List ℕ) (at c : ℕ) (cs : List ℕ) (w : Word) → Ending (read ++ (c ∷ [])) (at + 1) cs w → Ending read at (c ∷ cs) w
  ending_later read at c cs w later = record {
    size = suc later.size;
    one_or_more = omega arith;
    inside = omega (arith, later.inside);
    ends = omega (arith, later.ends);
    entered = ap (frequency_in ledger) (sym (append_assoc read (c ∷ []) (take later.size cs))) ∙ later.entered;
  }

  -- each of the words is one that ends so, in the ledger with its frequency
  each_ends : (cs read : List ℕ) (at : ℕ) (w : Word) → Memᴰ w (held_after read at cs) → Ending read at cs w
  unfolding held_after
  each_ends [] read at w m = absurd (Memᴰ.not-nil m)
  each_ends (c ∷ cs) read at w m =
      by (λ n. ending_later read at c cs w (each_ends cs (read ++ (c ∷ [])) (at + 1) w n)) (frequency_in ledger (read ++ (c ∷ []))) refl m
    where
      by : (Memᴰ w (held_after (read ++ (c ∷ [])) (at + 1) cs) → Ending read at (c ∷ cs) w)
          → (o : Option ℕ) → frequency_in ledger (read ++ (c ∷ [])) ≡ o
          → Memᴰ w (word_before (at + 1) o (held_after (read ++ (c ∷ [])) (at + 1) cs)) → Ending read at (c ∷ cs) w
      by later none e n = later n
      by later (some frequency) e n =
          ⊎_elim
          (λ same. record {
            size = 1;
            one_or_more = omega arith;
            inside = omega arith;
            ends = ap (λ (v : Word). v.end) same;
            entered = e ∙ ap some (sym (ap (λ (v : Word). v.frequency) same));
          })
          later
          (Memᴰ.cases_cons n)

  -- a word among the later ones is among all
  later_among : (end : ℕ) (o : Option ℕ) (ws : List Word) (w : Word) → Memᴰ w ws → Memᴰ w (word_before end o ws)
  later_among end none ws w m = m
  later_among end (some frequency) ws w m = Memᴰ.tail m

  -- each word of the ledger that ends so is one of the words
  none_lost : (cs read : List ℕ) (at size : ℕ) (w : Word)
      → 1 ≤ size → size ≤ length cs → w.end ≡ at + size → frequency_in ledger (read ++ take size cs) ≡ some w.frequency
      → Memᴰ w (held_after read at cs)
  unfolding held_after
  none_lost cs read at zero w some_size inside ends entered = absurd (omega arith)
  none_lost [] read at (suc n) w some_size inside ends entered = absurd (omega arith)
  none_lost (c ∷ cs) read at (suc zero) w some_size inside ends entered = rw entered (Memᴰ.head (same_word_lem (at + 1) w ends))
    where
      same_word_lem : (end : ℕ) (v : Word) → v.end ≡ end → v ≡ record { end = end; frequency = v.frequency }
      same_word_lem end v e = ap (λ (k : ℕ). record { end = k; frequency = v.frequency }) e
  none_lost (c ∷ cs) read at (suc (suc n)) w some_size inside ends entered =
      later_among (at + 1) (frequency_in ledger (read ++ (c ∷ []))) _ w
      (none_lost cs (read ++ (c ∷ [])) (at + 1) (suc n) w (omega arith) (omega arith) (omega arith)
      (ap (frequency_in ledger) (append_assoc read (c ∷ []) (take (suc n) cs)) ∙ entered))

  -- "ends rising"
  rising_after : (cs read : List ℕ) (at : ℕ) → Rising (held_after read at cs)
  unfolding held_after
  rising_after [] read at = tt
  rising_after (c ∷ cs) read at = by (rising_after cs (read ++ (c ∷ [])) (at + 1)) (frequency_in ledger (read ++ (c ∷ [])))
    where
      by : Rising (held_after (read ++ (c ∷ [])) (at + 1) cs) → (o : Option ℕ) → Rising (word_before (at + 1) o (held_after (read ++ (c ∷ [])) (at + 1) cs))
      by rest none = rest
      by rest (some frequency) = (
        λ other m. let its = each_ends cs (read ++ (c ∷ [])) (at + 1) other m in omega (arith, its.ends, its.one_or_more),
        rest,
      )

  -- ---- the rows

  -- the words from each position on, the first of them at the given one
  unfoldable pub rows_from : ℕ → List ℕ → List (List Word)
  rows_from at [] = []
  rows_from at (c ∷ cs) = held_after [] at (c ∷ cs) ∷ rows_from (at + 1) cs

  rows_length : (cs : List ℕ) (at : ℕ) → length (rows_from at cs) ≡ length cs
  unfolding rows_from
  rows_length [] at = refl
  rows_length (c ∷ cs) at = ap suc (rows_length cs (at + 1))

  -- the row of a position, from a first one on
  row_at : (cs : List ℕ) (at position here : ℕ) → here ≡ at + position → get_or (rows_from at cs) position [] ≡ held_after [] here (drop position cs)
  unfolding rows_from held_after
  row_at [] at zero here e = refl
  row_at [] at (suc position) here e = refl
  row_at (c ∷ cs) at zero here e = let same : at ≡ here = omega arith in ap (λ (k : ℕ). held_after [] k (c ∷ cs)) same
  row_at (c ∷ cs) at (suc position) here e = row_at cs (at + 1) position here (omega arith)

  row_of : (cs : List ℕ) (position : ℕ) → get_or (rows_from 0 cs) position [] ≡ held_after [] position (drop position cs)
  row_of cs position = row_at cs 0 position position (omega arith)

  pub held_rows : (cs : List ℕ) → HeldRows ledger cs (rows_from 0 cs)
  held_rows cs = record {
    positions = rows_length cs 0;
    each_held = λ position w m.
        let its = each_ends (drop position cs) [] position w (subst (Memᴰ w) (row_of cs position) m) in
        record {
          size = its.size;
          one_or_more = its.one_or_more;
          inside = omega (arith, its.one_or_more, its.inside, length-drop position cs);
          ends = its.ends;
          entered = its.entered;
        };
    none_missing = λ position w its.
        subst (Memᴰ w) (sym (row_of cs position))
        (none_lost (drop position cs) [] position its.size w its.one_or_more (omega (arith, its.inside, length-drop position cs)) its.ends
        its.entered);
    rising = λ position. subst Rising (sym (row_of cs position)) (rising_after (drop position cs) [] position);
  }

-- ---- the walks

module _ (b : Book) (ledger : List Entry) (by : BuiltByCalls b ledger) where
  pub walks_met : (cs : List ℕ) (at : ℕ) → Scalars cs → walks_of (words_from b) at cs ≡ map met (edges_of (rows_from ledger at cs))
  unfolding walks_of rows_from ledger_words
  walks_met [] at s = refl
  walks_met (c ∷ cs) at s = rw (walk_as_ledger b ledger by at (c ∷ cs) s, edges_after ledger (c ∷ cs) [] at, walks_met cs (at + 1) s.1)

-- the rows where they fit, and 10 where they do not
abbrev or_full : Bool → List (List Edge) → Edges
or_full fits rows = cond fits (edges rows) (stopped (Err EdgesFull))

-- a position's edges before those of the later ones
before_rows : (es : List Edge) (rows : List (List Edge)) (fits : Bool) → before es (or_full fits rows) ≡ or_full fits (es ∷ rows)
before_rows es rows true = refl
before_rows es rows false = refl

-- where the first ones fit, all fit if the others fit into the room that is left
rest_fits : (first rest room : ℕ) → first ≤ room → leb rest (room - first) ≡ leb (first + rest) room
rest_fits first rest room fits = by (leb (first + rest) room) refl
  where
    by : (all : Bool) → leb (first + rest) room ≡ all → leb rest (room - first) ≡ all
    by true e = le-leb rest (room - first) (omega (arith, leb-true (first + rest) room e))
    by false e = lt-leb rest (room - first) (omega (arith, leb-false (first + rest) room e))

pub edges_within_lem : (rows : List (List Word)) (room : ℕ) → edges_within room (map met (edges_of rows)) ≡ or_full (leb (word_count rows) room) (edges_of rows)
unfolding edges_within
edges_within_lem [] room = rw (le-leb 0 room (omega arith))
edges_within_lem (row ∷ rows) room = by (edges_within (room - length es) (map met (edges_of rows))) (edges_within_lem rows (room - length es)) (ltb room (length es)) refl
  where
    es : List Edge
    es = map edge_of row

    by : (rest : Edges) → rest ≡ or_full (leb (word_count rows) (room - length es)) (edges_of rows)
        → (full : Bool) → ltb room (length es) ≡ full
        → ◌≡◌ {A = Edges} (elim full [ true ↦ stopped (Err EdgesFull) | false ↦ before es rest ])
        (or_full (leb (length row + word_count rows) room) (es ∷ edges_of rows))
    by rest r true e = rw (lt-leb (length row + word_count rows) room (omega (arith, ltb-true room (length es) e, length-map row edge_of)))
    by rest r false e =
        ap (before es) r ∙ before_rows es (edges_of rows) (leb (word_count rows) (room - length es))
        ∙ ap (λ (fits : Bool). or_full fits (es ∷ edges_of rows))
        (rest_fits (length es) (word_count rows) room (ltb-false room (length es) e) ∙ ap (λ (n : ℕ). leb (n + word_count rows) room) (length-map row edge_of))

-- ---- the words of a block

-- a cut that goes by edges, which are all there or more than the room
by_room : (fits : Bool) (rows : List (List Edge)) (f : Edges → CutAnswer)
    → f (cond fits (edges rows) (stopped (Err EdgesFull))) ≡ cond fits (f (edges rows)) (f (stopped (Err EdgesFull)))
by_room true rows f = refl
by_room false rows f = refl

pub goes_by_rows : (b : Book) (cs : List ℕ) (rows : List (List Word)) → WalksMeet b cs rows → GoesByRows b cs rows
unfolding cut_block search_block
goes_by_rows b cs rows meets = record {
  cut = λ room base w.
      ap (cut_edges (log_float b.head.total) base cs w) (meets.within room)
      ∙ by_room (leb (word_count rows) room) (edges_of rows) (cut_edges (log_float b.head.total) base cs w);
  cut_for_search = λ room base w.
      ap (search_edges (log_float b.head.total) base cs w) (meets.within room)
      ∙ by_room (leb (word_count rows) room) (edges_of rows) (search_edges (log_float b.head.total) base cs w);
}

unfoldable pub block_words : (b : Book) (ledger : List Entry) → BuiltByCalls b ledger → (cs : List ℕ) → Scalars cs → BlockWords b ledger cs
block_words b ledger by cs s = record {
  rows = rows_from ledger 0 cs;
  held = held_rows ledger cs;
  meets = walks_meet;
  goes_by = goes_by_rows b cs (rows_from ledger 0 cs) walks_meet;
}
  where
    walks_meet : WalksMeet b cs (rows_from ledger 0 cs)
    walks_meet = record {
      walks = walks_met b ledger by cs 0 s;
      within = λ room. rw (walks_met b ledger by cs 0 s) (edges_within_lem (rows_from ledger 0 cs) room);
    }
