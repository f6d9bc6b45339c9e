-- The walks from each position of a block: the loop of `for_each_prefix_at_every_char`.
-- What is kept at each turn is `Joining`: the rows of the positions before `at` stand in the slices, and before the walks from `at` on they make what all
-- walks make; and they are as the route wants them. A turn adds the row of `at`, behind the others; or the walk from `at` is what stops them all.
-- Assumes nothing.
use Rattle.std.specs.Prelude.{Err}
use Prim.Native.Nat.{ℕ, ◌+◌, ◌-◌, ◌≤◌, ◌<◌}
use mathlib.Core.Bool.{Bool, true, false}
use mathlib.Core.List.{List, [], ◌∷◌, ◌++◌, append_assoc, append-nil}
use mathlib.Core.Path.{◌≡◌, refl, sym, ap, ◌∙◌, subst}
use native.Mathlib.Nat.{le_refl, sub-zero, zero-add}
use native.Mathlib.Numerals.{add-one}
use native.Mathlib.Omega.{arith}
use borrow.Author.Tests.{lt-ltb, le-ltb}
use lib.Ieee.{Float}
use lib.ListN.{length, get_or, set, take, drop, length-set}
use lib.Seq.{length-take-le, get_or-set_same, get_or-set_other}
use Rattle.std.specs.Prelude.{Result, Ok, Err}
use Rattle.score.proofs.Tests.{by_leb}
use Rattle.trie.specs.Trie.{CharTrie, trie_of}
use Rattle.book.specs.declared.Refusal.{Refusal}
use Rattle.book.specs.declared.Refusal.TheVariants.{EdgesFull}
use Rattle.book.specs.Returns.{Book}
use Rattle.book.specs.Prefixes.{Edge, Walked, words_from}
use Rattle.route.specs.Slices.{edges_from, edges_at, rows_from, EdgeOf}
use Rattle.cuts.specs.Edges as Cuts
use Rattle.cuts.specs.Edges.{edges, stopped, walks_of, before, edges_within}
use Rattle.cuts.proofs.Walks.{no_more_walks, first_walk}
use Rattle.prefixes.specs.declared.PrefixError.{PrefixError}
use Rattle.prefixes.specs.declared.PrefixError.TheVariants.{Full, Damaged}
use Rattle.prefixes.specs.Edges.{Kept, Pushed, WalkedAt, WalkedBlock}
use Rattle.prefixes.proofs.Slices.{edges_long, edges_same, rows_same, rows_one_more}

-- ---- the edges of a first walk, and then those of the others

module _ (room : ℕ) (w : Walked) (ws : List Walked) where
  -- a walk with room for its edges
  fits : (es : List Edge)
      → w ≡ record { edges = es; damaged = false }
      → length es ≤ room
      → edges_within room (w ∷ ws) ≡ before es (edges_within (room - length es) ws)
  unfolding edges_within
  fits es e h = ap (λ (v : Walked). edges_within room (v ∷ ws)) e ∙ met
    where
      met : edges_within room (record { edges = es; damaged = false } ∷ ws) ≡ before es (edges_within (room - length es) ws)
      met = rw (le-ltb room (length es) h, edges_within)

  -- a walk that met more edges than there is room for
  fills : room < length w.edges → edges_within room (w ∷ ws) ≡ stopped (Err EdgesFull)
  unfolding edges_within
  fills h = rw (lt-ltb room (length w.edges) h, edges_within)

  -- a walk that met damage before that
  breaks : length w.edges ≤ room → w.damaged ≡ true → edges_within room (w ∷ ws) ≡ stopped (Err Refusal.Damaged)
  unfolding edges_within
  breaks h e = rw (le-ltb room (length w.edges) h, e, edges_within)

-- ---- rows before what the walks that follow make

abbrev pub joined : List (List Edge) → Cuts.Edges → Cuts.Edges
joined rows (edges more) = edges (rows ++ more)
joined rows (stopped o) = stopped o

joined_before : (rows : List (List Edge)) (es : List Edge) (x : Cuts.Edges) → joined rows (before es x) ≡ joined (rows ++ (es ∷ [])) x
joined_before rows es (edges more) = ap edges (sym (append_assoc rows (es ∷ []) more))
joined_before rows es (stopped o) = refl

joined_none : (x : Cuts.Edges) → joined [] x ≡ x
joined_none (edges more) = refl
joined_none (stopped o) = refl

-- ---- the loop

-- where it stands: before the position `at`, with so many places taken
pub record Joining (roots slots : List ℕ) (used : ℕ) (chars : List ℕ)
    (n room : ℕ) (starts₀ ends₀ records₀ starts ends records : List ℕ) (count at : ℕ) : Type 0 where
  pub last : at ≤ n
  pub within : count ≤ room
  pub starts_long : length starts ≡ length starts₀
  pub ends_long : length ends ≡ length ends₀
  pub records_long : length records ≡ length records₀
  pub here : get_or starts at 0 ≡ count
  pub rising : (i : ℕ) → i < at → get_or starts i 0 ≤ get_or starts (i + 1) 0
  pub taken : (i : ℕ) → i ≤ at → get_or starts i 0 ≤ count
  pub forward : (i place : ℕ) → i < at → EdgeOf starts i place → i < get_or ends place 0
  pub inside : (i place : ℕ) → i < at → EdgeOf starts i place → get_or ends place 0 ≤ n
  pub known : (i place : ℕ) → i < at → EdgeOf starts i place → get_or records place 0 < used
  pub same : (b : Book)
      → b.trie ≡ trie_of roots slots
      → b.head.records ≡ used
      → edges_within room (walks_of (words_from b) 0 (take n chars))
      ≡ joined (rows_from starts ends records b.logarithms 0 at) (edges_within (room - count) (walks_of (words_from b) at (drop at (take n chars))))

-- before the first position, with no place taken
pub begins : (roots slots : List ℕ) (used : ℕ) (chars : List ℕ)
    (n room : ℕ) (starts ends records : List ℕ)
    → get_or starts 0 0 ≡ 0
    → Joining roots slots used chars n room starts ends records starts ends records 0 0
unfolding rows_from
begins roots slots used chars n room starts ends records first =
    record {
      last = omega arith;
      within = omega arith;
      starts_long = refl;
      ends_long = refl;
      records_long = refl;
      here = first;
      rising = λ i h. absurd (omega arith);
      taken = λ i h. let start : i ≡ 0 = omega arith in rw start (omega (arith, first));
      forward = λ i place h edge. absurd (omega arith);
      inside = λ i place h edge. absurd (omega arith);
      known = λ i place h edge. absurd (omega arith);
      same = λ b trie in_use. rw (sub-zero room) (sym (joined_none (edges_within room (walks_of (words_from b) 0 (take n chars)))));
    }

module _ {roots slots : List ℕ} {used : ℕ} {chars : List ℕ}
    {n room : ℕ} {starts₀ ends₀ records₀ starts ends records : List ℕ} {count at : ℕ}
    (now : Joining roots slots used chars n room starts₀ ends₀ records₀ starts ends records count at)
    (long : n ≤ length chars) where
  abbrev tables : CharTrie
  tables = trie_of roots slots

  -- the block's characters
  abbrev cs : List ℕ
  cs = take n chars

  cs_long : length cs ≡ n
  cs_long = length-take-le n chars long

  -- the rows so far
  abbrev so_far : Book → List (List Edge)
  so_far b = rows_from starts ends records b.logarithms 0 at

  -- the block's end: all rows stand in the slices, as the route wants them
  pub ends_here : n ≤ at
      → room ≤ length ends₀
      → room ≤ length records₀
      → (b : Book)
      → b.trie ≡ tables
      → b.head.records ≡ used
      → used ≤ length b.logarithms
      → WalkedBlock b n room cs starts ends records (Ok count)
  unfolding edges_within
  ends_here past in_ends in_records b trie in_use logarithms =
      let there : at ≡ n = omega (arith, now.last) in (
        now.same b trie in_use
            ∙ ap (λ (ws : List Walked). joined (so_far b) (edges_within (room - count) ws)) (no_more_walks (words_from b) at cs (omega (arith, cs_long)))
            ∙ ap edges (append-nil (so_far b))
            ∙ ap (λ (k : ℕ). edges (rows_from starts ends records b.logarithms 0 k)) there,
        record {
          rising = λ i h. now.rising i (omega arith);
          in_ends = λ i h. omega (arith, now.taken i (omega arith), now.within, now.ends_long);
          in_records = λ i h. omega (arith, now.taken i (omega arith), now.within, now.records_long);
          forward = λ i place h edge. now.forward i place (omega arith) edge;
          inside = λ i place h edge. now.inside i place (omega arith) edge;
          known = λ i place h edge. omega (arith, now.known i place (omega arith) edge);
        },
      )

  -- the walk from here, and the edge slices after it
  module _ (r : Result ℕ PrefixError) (ends' records' : List ℕ) (more : at < n)
      (walked : (b : Book) → b.trie ≡ tables → b.head.records ≡ used → WalkedAt b n at room count (words_from b at (drop at cs)) ends' records' r) where
    -- what all walks make, by the walk from here
    by_first : (b : Book)
        → b.trie ≡ tables
        → b.head.records ≡ used
        → edges_within room (walks_of (words_from b) 0 cs)
        ≡ joined (so_far b) (edges_within (room - count) (words_from b at (drop at cs) ∷ walks_of (words_from b) (at + 1) (drop (at + 1) cs)))
    by_first b trie in_use =
        now.same b trie in_use
        ∙ ap (λ (ws : List Walked). joined (so_far b) (edges_within (room - count) ws)) (first_walk (words_from b) at cs (omega (arith, cs_long)))

    -- the walk from here finds no place for an edge
    ends_full : r ≡ Err Full → (b : Book) → b.trie ≡ tables → b.head.records ≡ used → edges_within room (walks_of (words_from b) 0 cs) ≡ stopped (Err EdgesFull)
    ends_full e b trie in_use =
        let full = rw e at (walked b trie in_use) in
        by_first b trie in_use
        ∙ ap (joined (so_far b)) (fills (room - count) (words_from b at (drop at cs)) (walks_of (words_from b) (at + 1) (drop (at + 1) cs)) full)

    -- the walk from here meets damage
    ends_damaged : r ≡ Err Damaged
        → (b : Book)
        → b.trie ≡ tables
        → b.head.records ≡ used
        → edges_within room (walks_of (words_from b) 0 cs) ≡ stopped (Err Refusal.Damaged)
    ends_damaged e b trie in_use =
        let damage = rw e at (walked b trie in_use) in
        by_first b trie in_use
        ∙ ap (joined (so_far b)) (breaks (room - count) (words_from b at (drop at cs)) (walks_of (words_from b) (at + 1) (drop (at + 1) cs)) damage.0
        damage.1)

    -- so the error of the walk is that of the block
    pub ends_stopped : (e : PrefixError) → r ≡ Err e → (b : Book) → b.trie ≡ tables → b.head.records ≡ used
        → WalkedBlock b n room cs starts ends' records' (Err e)
    ends_stopped Full e b trie in_use = ends_full e b trie in_use
    ends_stopped Damaged e b trie in_use = ends_damaged e b trie in_use

    -- it has found places for all its edges
    module _ {to : ℕ} (e : r ≡ Ok to) where
      pushed : (b : Book) → b.trie ≡ tables → b.head.records ≡ used → Pushed b n at room count to (words_from b at (drop at cs)) ends' records'
      pushed b trie in_use = rw e at (walked b trie in_use)

      -- some book with these tables, for what holds of the slices alone
      abbrev some_book : Book
      some_book = record {
        head = record { records = used; slots = 0; next = 1; total = 0 };
        trie = tables;
        records = [];
        logarithms = [];
      }

      row : Pushed some_book n at room count to (words_from some_book at (drop at cs)) ends' records'
      row = pushed some_book refl refl

      module _ (starts_free : at + 1 < length starts) where
        -- the starts with the next one
        abbrev starts' : List ℕ
        starts' = set starts (at + 1) to

        next_start : get_or starts' (at + 1) 0 ≡ to
        next_start = get_or-set_same starts (at + 1) to 0 starts_free

        start_kept : (i : ℕ) → i ≤ at → get_or starts' i 0 ≡ get_or starts i 0
        start_kept i h = get_or-set_other starts (at + 1) i to 0 (omega arith)

        here_kept : get_or starts' at 0 ≡ count
        here_kept = start_kept at (le_refl at) ∙ now.here

        -- an edge of an earlier position is one that was there
        edge_kept : (i place : ℕ) → i < at → EdgeOf starts' i place → EdgeOf starts i place
        edge_kept i place h edge = record {
          first = omega (arith, edge.first, start_kept i (omega arith));
          last = omega (arith, edge.last, start_kept (i + 1) (omega arith));
        }

        -- what holds of the earlier positions' edges, and of the edges of this one
        each_edge : (P : ℕ → ℕ → Type 0)
            → ((i place : ℕ) → i < at → place < count → EdgeOf starts i place → P i place)
            → ((place : ℕ) → count ≤ place → place < to → P at place)
            → (i place : ℕ) → i < at + 1 → EdgeOf starts' i place → P i place
        each_edge P old new i place h edge =
            by_leb at i (λ (t : Bool). P i place)
            (λ k.
            let there : i ≡ at = omega arith in
            let first : get_or starts' at 0 ≤ place = subst (λ (j : ℕ). get_or starts' j 0 ≤ place) there edge.first in
            let last : place < get_or starts' (at + 1) 0 = subst (λ (j : ℕ). place < get_or starts' (j + 1) 0) there edge.last in
            subst (λ (j : ℕ). P j place) (sym there) (new place (omega (arith, here_kept)) (omega (arith, next_start))))
            (λ k.
            let was = edge_kept i place k edge in
            old i place k (omega (arith, was.last, now.taken (i + 1) (omega arith))) was)

        module _ (kept_ends : Kept count ends ends') (kept_records : Kept count records records') where
          row_kept : (logarithms : List Float) (k : ℕ) → k < at → edges_at starts' ends' records' logarithms k ≡ edges_at starts ends records logarithms k
          row_kept logarithms k h =
              rw (start_kept k (omega arith), start_kept (k + 1) (omega arith))
              (edges_same ends records ends' records' logarithms (get_or starts k 0) (get_or starts (k + 1) 0 - get_or starts k 0)
              (λ i first last. kept_ends i (omega (arith, now.rising k h, now.taken (k + 1) (omega arith))))
              (λ i first last. kept_records i (omega (arith, now.rising k h, now.taken (k + 1) (omega arith)))))

          rows_more : (b : Book)
              → rows_from starts' ends' records' b.logarithms 0 (at + 1) ≡ so_far b ++ (edges_from ends' records' b.logarithms count (to - count) ∷ [])
          rows_more b =
              let kept : rows_from starts' ends' records' b.logarithms 0 at ≡ so_far b =
              rows_same _ _ _ _ _ _ _ 0 at (λ k first last. row_kept b.logarithms k (omega arith)) in
              ap (rows_from starts' ends' records' b.logarithms 0) (add-one at)
              ∙ rows_one_more starts' ends' records' b.logarithms 0 at
              ∙ rw (kept, zero-add at, here_kept, next_start)

          -- the next start is written
          pub goes_on : length ends' ≡ length ends
              → length records' ≡ length records
              → Joining roots slots used chars n room starts₀ ends₀ records₀ starts' ends' records' to (at + 1)
          goes_on same_ends same_records =
              record {
                last = omega arith;
                within = row.within;
                starts_long = length-set starts (at + 1) to ∙ now.starts_long;
                ends_long = same_ends ∙ now.ends_long;
                records_long = same_records ∙ now.records_long;
                here = next_start;
                rising = rises;
                taken = below;
                forward =
                    each_edge (λ (i place : ℕ). i < get_or ends' place 0)
                    (λ i place h k edge. rw (kept_ends place k) (now.forward i place h edge))
                    row.forward;
                inside =
                    each_edge (λ (i place : ℕ). get_or ends' place 0 ≤ n)
                    (λ i place h k edge. rw (kept_ends place k) (now.inside i place h edge))
                    row.inside;
                known =
                    each_edge (λ (i place : ℕ). get_or records' place 0 < used)
                    (λ i place h k edge. rw (kept_records place k) (now.known i place h edge))
                    row.known;
                same = one_more;
              }
            where
              rises : (i : ℕ) → i < at + 1 → get_or starts' i 0 ≤ get_or starts' (i + 1) 0
              rises i h =
                  by_leb at i (λ (t : Bool). get_or starts' i 0 ≤ get_or starts' (i + 1) 0)
                  (λ k.
                  let there : at ≡ i = omega arith in
                  let here : get_or starts' at 0 ≤ get_or starts' (at + 1) 0 = omega (arith, here_kept, next_start, row.rising) in
                  subst (λ (j : ℕ). get_or starts' j 0 ≤ get_or starts' (j + 1) 0) there here)
                  (λ k. omega (arith, start_kept i (omega arith), start_kept (i + 1) (omega arith), now.rising i k))

              below : (i : ℕ) → i ≤ at + 1 → get_or starts' i 0 ≤ to
              below i h =
                  by_leb (at + 1) i (λ (t : Bool). get_or starts' i 0 ≤ to)
                  (λ k. let there : at + 1 ≡ i = omega arith in subst (λ (j : ℕ). get_or starts' j 0 ≤ to) there (omega (arith, next_start)))
                  (λ k. omega (arith, start_kept i (omega arith), now.taken i (omega arith), row.rising))

              one_more : (b : Book)
                  → b.trie ≡ tables
                  → b.head.records ≡ used
                  → edges_within room (walks_of (words_from b) 0 cs)
                  ≡ joined (rows_from starts' ends' records' b.logarithms 0 (at + 1))
                  (edges_within (room - to) (walks_of (words_from b) (at + 1) (drop (at + 1) cs)))
              one_more b trie in_use =
                  let es = edges_from ends' records' b.logarithms count (to - count) in
                  let ws = walks_of (words_from b) (at + 1) (drop (at + 1) cs) in
                  let many : length es ≡ to - count = edges_long ends' records' b.logarithms count (to - count) in
                  let fit : length es ≤ room - count = omega (arith, many, row.rising, row.within) in
                  let left : room - count - length es ≡ room - to = omega (arith, many, row.rising, row.within) in
                  by_first b trie in_use
                  ∙ ap (joined (so_far b)) (fits (room - count) (words_from b at (drop at cs)) ws es (pushed b trie in_use).met fit)
                  ∙ joined_before (so_far b) es (edges_within (room - count - length es) ws)
                  ∙ ap (λ (k : ℕ). joined (so_far b ++ (es ∷ [])) (edges_within k ws)) left
                  ∙ ap (λ (rows : List (List Edge)). joined rows (edges_within (room - to) ws)) (sym (rows_more b))
