-- Every list of spans of which a cut makes tokens lies within its block: each span has one character or more and ends at the block's end at the latest.
-- A walk's words end behind its first position and not behind the last character that it reads. The step that a route has for a position is such a word or
-- the step to the next position. Spans that stand one behind the other still do so when neighbours join. What search adds lies within the token that it is
-- found in: a part is kept only if it takes two bytes or more, so it has a character.
-- Assumes nothing.
use Prim.Native.Nat.{ℕ, zero, suc, ◌+◌, ◌-◌, ◌≤◌, ◌<◌}
use mathlib.Core.Bool.{Bool, true, false, cond, ◌&&◌}
use mathlib.Core.List.{List, [], ◌∷◌, ◌++◌, Memᴰ}
use mathlib.Core.Path.{◌≡◌, refl}
use native.Mathlib.Omega.{arith}
use borrow.Author.Tests.{leb-true, ltb-true}
use lib.Dec.{eqb, ltb}
use lib.Ieee.{Float}
use lib.ListN.{length, get_or, drop, length-take}
use Rattle.std.specs.Prelude.{Ok, Err, Some, None}
use Rattle.classes.specs.Tokens.{joins, connector}
use Rattle.utf8.specs.Encoding.{byte_length}
use Rattle.trie.specs.declared.ParentRef.{ParentRef}
use Rattle.trie.specs.declared.ParentRef.TheVariants.{Root}
use Rattle.trie.specs.Trie.{tested_step, word_at, Step, WordNumber}
use Rattle.book.specs.Returns.{Book}
use Rattle.book.specs.Prefixes.{Edge, Walked, ended, broken, met_before, walk_on, words_from}
use Rattle.route.specs.Route.{Best, choose, route_of}
use Rattle.route.specs.Slices.{nowhere}
use Rattle.route.proofs.Words.{no_lone_step_beside_words}
use Rattle.cuts.specs.Edges.{walks_of, Edges, edges, stopped, before, edges_within}
use Rattle.cuts.specs.Tokens.{Span, steps_from, Piece, before_pieces, pieces_of, places_of, joined, lone_letter, cut_route, singly, each, runs_of}
use Rattle.cuts.specs.Tokens.{any_of, those, parts, chars_between, searchable, parts_of, held_between, stretches, words_of_size, searched}
use Rattle.cuts.specs.Cuts.{spans_of}

-- ---- cases by a test

module _ {A : Type 0} (P : A → Type 0) where
  pub by_elim : (t : Bool) {x y : A} → (t ≡ true → P x) → (t ≡ false → P y) → P (elim t [ true ↦ x | false ↦ y ])
  by_elim true passed failed = passed refl
  by_elim false passed failed = failed refl

  pub by_cond : (t : Bool) {x y : A} → (t ≡ true → P x) → (t ≡ false → P y) → P (cond t x y)
  by_cond true passed failed = passed refl
  by_cond false passed failed = failed refl

  -- ---- of each in a list

  abbrev pub Each : List A → Type 0
  Each [] = Unit {0}
  Each (x ∷ xs) = P x × Each xs

  each_one : (xs : List A) → Each xs → (x : A) → Memᴰ x xs → P x
  each_one [] h x x4 = elim x4 [ ]
  each_one (y ∷ xs) h x (Memᴰ.head e) = rw e h.0
  each_one (y ∷ xs) h x (Memᴰ.tail m) = each_one xs h.1 x m

  each_append : (xs ys : List A) → Each xs → Each ys → Each (xs ++ ys)
  each_append [] ys h k = k
  each_append (x ∷ xs) ys h k = (h.0, each_append xs ys h.1 k)

-- what a test tells of those that pass it
each_those : {A : Type 0} (P Q : A → Type 0) (test : A → Bool) → ((x : A) → P x → test x ≡ true → Q x)
    → (xs : List A) → Each P xs → Each Q (those test xs)
each_those P Q test passed [] h = tt
each_those P Q test passed (x ∷ xs) h =
    by_cond (Each Q) (test x) (λ e. (passed x h.0 e, each_those P Q test passed xs h.1)) (λ e. each_those P Q test passed xs h.1)

-- ---- the words of a walk

-- a step from a position leads forward, to n at most
abbrev Ahead : ℕ → ℕ → ℕ → Type 0
Ahead n at end = (at < end) × (end ≤ n)

abbrev EdgeAhead : ℕ → ℕ → Edge → Type 0
EdgeAhead n at e = Ahead n at e.end

module _ (b : Book) (n from : ℕ) where
  met_ahead : (number : WordNumber) (next : ℕ) (w : Walked) → Ahead n from next → Each (EdgeAhead n from) w.edges
      → Each (EdgeAhead n from) (met_before b number next w).edges
  met_ahead (Ok None) next w here rest = rest
  met_ahead (Ok (Some k)) next w here rest = (here, rest)
  met_ahead (Err d) next w here rest = tt

  walk_ahead : (cs : List ℕ) (p : ParentRef) (at : ℕ) → from ≤ at → at + length cs ≤ n → Each (EdgeAhead n from) (walk_on b p at cs).edges
  unfolding walk_on
  walk_ahead [] p at forward inside = tt
  walk_ahead (c ∷ cs) p at forward inside = by (λ q. walk_ahead cs q (at + 1) (omega arith) (omega arith)) (tested_step b.trie p c)
    where
      onward : Step → Walked
      onward s = elim s [
        | Ok (Some q) ↦ met_before b (word_at b.head.records b.trie q) (at + 1) (walk_on b q (at + 1) cs)
        | Ok None ↦ ended
        | Err d ↦ broken
      ]

      by : ((q : ParentRef) → Each (EdgeAhead n from) (walk_on b q (at + 1) cs).edges) → (s : Step) → Each (EdgeAhead n from) (onward s).edges
      by rest (Ok (Some q)) = met_ahead (word_at b.head.records b.trie q) (at + 1) (walk_on b q (at + 1) cs) (omega arith, omega arith) (rest q)
      by rest (Ok None) = tt
      by rest (Err d) = tt

-- of what a cut sees of a book: the words that start at a position end behind it, within the characters that follow
abbrev pub WordsAhead : (ℕ → List ℕ → Walked) → Type 0
WordsAhead words = (n at : ℕ) (cs : List ℕ) → at + length cs ≤ n → Each (EdgeAhead n at) (words at cs).edges

pub words_ahead : (b : Book) → WordsAhead (words_from b)
unfolding words_from
words_ahead b n at cs inside = walk_ahead b n at cs Root at (omega arith) inside

-- ---- the edges of a block

-- a row for each position from one on, up to n
abbrev RowsAhead : ℕ → ℕ → List (List Edge) → Type 0
RowsAhead n at [] = at ≡ n
RowsAhead n at (es ∷ rows) = (at < n) × Each (EdgeAhead n at) es × RowsAhead n (at + 1) rows

abbrev pub FoundAhead : ℕ → ℕ → Edges → Type 0
FoundAhead n at (edges rows) = RowsAhead n at rows
FoundAhead n at (stopped o) = Unit {0}

before_ahead : (n at : ℕ) (es : List Edge) (found : Edges) → at < n → Each (EdgeAhead n at) es → FoundAhead n (at + 1) found
    → FoundAhead n at (before es found)
before_ahead n at es (edges rows) inside here rest = (inside, here, rest)
before_ahead n at es (stopped o) inside here rest = tt

pub found_ahead : (words : ℕ → List ℕ → Walked) → WordsAhead words → (n at : ℕ) (cs : List ℕ) (room : ℕ) → at + length cs ≡ n
    → FoundAhead n at (edges_within room (walks_of words at cs))
unfolding edges_within walks_of
found_ahead words ahead n at [] room end = omega arith
found_ahead words ahead n at (c ∷ cs) room end =
    let here : List Edge = (words at (c ∷ cs)).edges in
    by_elim (FoundAhead n at) (ltb room (length here)) (λ full. tt)
    (λ free. by_elim (FoundAhead n at) (words at (c ∷ cs)).damaged (λ damaged. tt)
    (λ sound. before_ahead n at here (edges_within (room - length here) (walks_of words (at + 1) cs)) (omega arith) (ahead n at (c ∷ cs) (omega arith))
    (found_ahead words ahead n (at + 1) cs (room - length here) (omega arith))))

-- ---- the steps of a route

route_ahead : (log_total : Float) (n at : ℕ) (rows : List (List Edge)) → RowsAhead n at rows → (i position : ℕ) → position ≡ at + i → position < n
    → Ahead n position (get_or (route_of log_total at rows) i nowhere).end
unfolding route_of choose
route_ahead log_total n at [] h i position e inside = absurd (omega arith)
route_ahead log_total n at ([] ∷ rows) h zero position e inside = (omega arith, omega arith)
route_ahead log_total n at ((first ∷ others) ∷ rows) h zero position e inside =
    let here : position ≡ at = omega arith in
    let step = no_lone_step_beside_words log_total at first others rows in
    rw (here, step.2) (each_one (EdgeAhead n at) (first ∷ others) h.1 step.0 step.1)
route_ahead log_total n at (es ∷ rows) h (suc i) position e inside = route_ahead log_total n (at + 1) rows h.2 i position (omega arith) inside

-- ---- spans one behind the other

-- it has a character, and ends at n at most
abbrev pub Within : ℕ → Span → Type 0
Within n s = Ahead n s.start s.end

-- each starts where the one before it ends or later, the first at a position or later
abbrev Chain : ℕ → ℕ → List Span → Type 0
Chain n at [] = Unit {0}
Chain n at (s ∷ ss) = (at ≤ s.start) × Within n s × Chain n s.end ss

chain_within : (n at : ℕ) (ss : List Span) → Chain n at ss → Each (Within n) ss
chain_within n at [] h = tt
chain_within n at (s ∷ ss) h = (h.1, chain_within n s.end ss h.2)

-- two neighbours become one, or do not
before_chain : (n at : ℕ) (s : Span) (joining : Bool) (ps : List Piece) → Chain n at (s ∷ places_of ps) → Chain n at (places_of (before_pieces s joining ps))
before_chain n at s joining [] h = h
before_chain n at s joining (p ∷ ps) h =
    by_cond (λ (qs : List Piece). Chain n at (places_of qs)) (joining && p.joining) (λ both. (h.0, (omega arith, h.2.1.1), h.2.2)) (λ other. h)

pieces_chain : (n at : ℕ) (joining : Span → Bool) (ss : List Span) → Chain n at ss → Chain n at (places_of (pieces_of joining ss))
unfolding pieces_of
pieces_chain n at joining [] h = tt
pieces_chain n at joining (s ∷ ss) h =
    before_chain n at s (joining s) (pieces_of joining ss) (h.0, h.1, pieces_chain n s.end joining ss h.2)

joined_within : (n at : ℕ) (joining : Span → Bool) (ss : List Span) → Chain n at ss → Each (Within n) (joined joining ss)
unfolding joined
joined_within n at joining ss h = chain_within n at (places_of (pieces_of joining ss)) (pieces_chain n at joining ss h)

-- ---- the spans of a route

steps_chain : (n fuel at : ℕ) (route : List Best) → ((i : ℕ) → i < n → Ahead n i (get_or route i nowhere).end) → Chain n at (steps_from fuel route n at)
unfolding steps_from
steps_chain n zero at route ahead = tt
steps_chain n (suc fuel) at route ahead =
    by_elim (Chain n at) (ltb at n) (λ more. (omega arith, ahead at (ltb-true at n more), steps_chain n fuel (get_or route at nowhere).end route ahead))
    (λ past. tt)

pub route_within : (log_total : Float) (chars : List ℕ) (rows : List (List Edge)) → FoundAhead (length chars) 0 (edges rows)
    → Each (Within (length chars)) (cut_route chars (route_of log_total 0 rows))
unfolding cut_route
route_within log_total chars rows h =
    joined_within (length chars) 0 (lone_letter chars) _
    (steps_chain (length chars) (length chars) 0 (route_of log_total 0 rows) (λ i inside. route_ahead log_total (length chars) 0 rows h i i (omega arith) inside))

-- ---- the spans of characters outside the class

singly_within : (n at : ℕ) (cs : List ℕ) → at + length cs ≤ n → Each (Within n) (singly at cs)
unfolding singly
singly_within n at [] inside = tt
singly_within n at (c ∷ []) inside = ((omega arith, omega arith), tt)
singly_within n at (c ∷ d ∷ cs) inside =
    by_elim (Each (Within n)) (eqb c 0x0D && eqb d 0x0A)
    (λ pair. ((omega arith, omega arith), singly_within n (at + 2) cs (omega arith)))
    (λ other. ((omega arith, omega arith), singly_within n (at + 1) (d ∷ cs) (omega arith)))

pub outside_within : (chars : List ℕ) → Each (Within (length chars)) (singly 0 chars)
outside_within chars = singly_within (length chars) 0 chars (omega arith)

each_chain : (n at : ℕ) (cs : List ℕ) → at + length cs ≤ n → Chain n at (each at cs)
each_chain n at [] inside = tt
each_chain n at (c ∷ cs) inside = (omega arith, (omega arith, omega arith), each_chain n (at + 1) cs (omega arith))

pub runs_within : (chars : List ℕ) → Each (Within (length chars)) (runs_of chars)
unfolding runs_of
runs_within chars = joined_within (length chars) 0 (λ s. joins (get_or chars s.start 0)) (each 0 chars) (each_chain (length chars) 0 chars (omega arith))

-- ---- the words of `cut_all`

pub spans_within : (n at : ℕ) (es : List Edge) → Each (EdgeAhead n at) es → Each (Within n) (spans_of at es)
spans_within n at [] h = tt
spans_within n at (e ∷ es) h = (h.0, spans_within n at es h.1)

-- ---- search

-- each part ends within what is read
abbrev EndsBy : ℕ → Span → Type 0
EndsBy n s = s.end ≤ n

parts_end : (n from at : ℕ) (cs : List ℕ) → at + length cs ≤ n → Each (EndsBy n) (parts from at cs)
unfolding parts
parts_end n from at [] inside = (omega arith, tt)
parts_end n from at (c ∷ cs) inside =
    by_elim (Each (EndsBy n)) (connector c) (λ here. (omega arith, parts_end n (at + 1) (at + 1) cs (omega arith)))
    (λ other. parts_end n from (at + 1) cs (omega arith))

-- what takes two bytes has a character
searchable_some : (cs : List ℕ) → searchable cs ≡ true → 0 < length cs
unfolding byte_length
searchable_some [] e = absurd (omega (arith, leb-true 2 0 e))
searchable_some (c ∷ cs) e = omega arith

stretches_within : (n size from count : ℕ) → 0 < size → from + count + size ≤ n + 1 → Each (Within n) (stretches size from count)
stretches_within n size from zero some inside = tt
stretches_within n size from (suc count) some inside = ((omega arith, omega arith), stretches_within n size (from + 1) count some (omega arith))

module _ (chars : List ℕ) (n : ℕ) where
  between_length : (s : Span) → length (chars_between chars s) ≤ s.end - s.start
  between_length s = omega (arith, length-take (s.end - s.start) (drop s.start chars))

  part_within : (p : Span) → EndsBy n p → searchable (chars_between chars p) ≡ true → Within n p
  part_within p inside e = (omega (arith, searchable_some (chars_between chars p) e, between_length p), inside)

  parts_within : (s : Span) → Within n s → Each (Within n) (parts_of chars s)
  unfolding parts_of
  parts_within s h =
      let found : List Span = parts s.start s.start (chars_between chars s) in
      by_cond (Each (Within n)) (any_of connector (chars_between chars s))
      (λ some. each_those (EndsBy n) (Within n) (λ p. searchable (chars_between chars p)) part_within found
      (parts_end n s.start s.start (chars_between chars s) (omega (arith, between_length s))))
      (λ none. tt)

  words_within : (size : ℕ) (rows : List (List Edge)) (s : Span) → 0 < size → Within n s → Each (Within n) (words_of_size size rows s)
  unfolding words_of_size
  words_within size rows s some h =
      let count : ℕ = s.end - s.start + 1 - size in
      by_cond (Each (Within n)) (ltb size (s.end - s.start))
      (λ long. each_those (Within n) (Within n) (held_between rows) (λ x inside held. inside) (stretches size s.start count)
      (stretches_within n size s.start count some (omega (arith, ltb-true size (s.end - s.start) long))))
      (λ short. tt)

  pub searched_within : (rows : List (List Edge)) (ss : List Span) → Each (Within n) ss → Each (Within n) (searched chars rows ss)
  unfolding searched
  searched_within rows [] h = tt
  searched_within rows (s ∷ ss) h =
      each_append (Within n) (parts_of chars s) _ (parts_within s h.0)
      (each_append (Within n) (words_of_size 2 rows s) _ (words_within 2 rows s (omega arith) h.0)
      (each_append (Within n) (words_of_size 3 rows s) _ (words_within 3 rows s (omega arith) h.0) (h.0, searched_within rows ss h.1)))
