-- `SearchWordsAreHeld` and `HeldBetweenIsLookedUp`: a lookup repeats the first steps of a walk.
-- Both take the same step at each character, from the same place. A word of the walk ends one character behind the position of its last step, or later, so
-- one that ends so many characters on was met at the last of these steps, where the lookup reads the same word number. Where the step finds nothing both
-- are at their end. A bad number and a probe without an end would have been damage to the walk.
-- Assumes nothing.
use Rattle.std.specs.Prelude.{Err}
use mathlib.Core.Path.{◌≡◌, refl}
use mathlib.Core.Bool.{Bool, true, false, true≢false}
use mathlib.Core.List.{List, [], ◌∷◌}
use mathlib.Core.Logic.{◌≢◌}
use Prim.Native.Nat.{ℕ, zero, suc, ◌+◌, ◌-◌, ◌≤◌, ◌<◌}
use native.Mathlib.Omega.{arith}
use borrow.Author.Tests.{eq-eqb, ne_eqb}
use lib.Dec.{eqb, ltb}
use lib.ListN.{length, get_or, take, drop}
use Rattle.std.specs.Prelude.{Ok, Err, Some, None}
use Rattle.trie.specs.declared.ParentRef.{ParentRef}
use Rattle.trie.specs.declared.ParentRef.TheVariants.{Root}
use Rattle.trie.specs.Trie.{tested_step, walk, word_at, get_of, Step, WordNumber, damage}
use Rattle.book.specs.declared.Refusal.TheVariants.{EdgesFull, Damaged as DamagedBook}
use Rattle.book.specs.Returns.{Book}
use Rattle.book.specs.Prefixes.{Edge, Walked, ended, broken, met_before, walk_on, words_from}
use Rattle.cuts.specs.Edges.{walks_of, Edges, edges, stopped, before, edges_within}
use Rattle.cuts.specs.Tokens.{any_of}
use Rattle.built_cuts.specs.Claims.{is_held, looked_up, AsLookedUp, SearchWordsAreHeld, HeldBetweenIsLookedUp}

-- one of the edges ends at a position
abbrev some_ends : ℕ → List Edge → Bool
some_ends end es = any_of (λ (e : Edge). eqb e.end end) es

-- both have a word, or neither, and there is no damage
data Agree : Bool → WordNumber → Type 0 where
  both_held : {n : ℕ} → Agree true (Ok (Some n))
  neither : Agree false (Ok None)

module _ (b : Book) where
  -- what a lookup finds where its steps led
  abbrev got_at : Step → WordNumber
  got_at s = elim s [ Ok (Some p) ↦ word_at b.head.records b.trie p | Ok None ↦ Ok None | Err d ↦ Err d ]

  -- what a walk meets from a step on, whose character ends at a position
  abbrev walk_from : ℕ → List ℕ → Step → Walked
  walk_from next cs s = elim s [ Ok (Some q) ↦ met_before b (word_at b.head.records b.trie q) next (walk_on b q next cs) | Ok None ↦ ended | Err d ↦ broken ]

  -- ---- a walk's words end behind its first position

  -- the word of the first step ends behind it, as those of the later steps
  later_by : (number : WordNumber) (next end : ℕ) (w : Walked) → end < next → some_ends end w.edges ≡ false
      → some_ends end (met_before b number next w).edges ≡ false
  later_by (Ok None) next end w h rest = rest
  later_by (Ok (Some n)) next end w h rest = rw (ne_eqb next end (λ e. omega arith), rest)
  later_by (Err d) next end w h rest = refl

  ends_later : (cs : List ℕ) (p : ParentRef) (at end : ℕ) → end ≤ at → some_ends end (walk_on b p at cs).edges ≡ false
  unfolding walk_on
  ends_later [] p at end h = refl
  ends_later (c ∷ cs) p at end h = by (λ q. ends_later cs q (at + 1) end (omega arith)) (tested_step b.trie p c)
    where
      by : ((q : ParentRef) → some_ends end (walk_on b q (at + 1) cs).edges ≡ false)
          → (s : Step) → some_ends end (walk_from (at + 1) cs s).edges ≡ false
      by rest (Ok (Some q)) = later_by (word_at b.head.records b.trie q) (at + 1) end (walk_on b q (at + 1) cs) (omega arith) (rest q)
      by rest (Ok None) = refl
      by rest (Err d) = refl

  -- ---- a walk beside a lookup

  -- at the last step the walk has the word that the lookup finds, and its later words end later
  last_step : (number : WordNumber) (next : ℕ) (w : Walked) → (met_before b number next w).damaged ≡ false → some_ends next w.edges ≡ false
      → Agree (some_ends next (met_before b number next w).edges) number
  last_step (Ok None) next w sound rest = rw rest neither
  last_step (Ok (Some n)) next w sound rest = rw (eq-eqb next next refl) both_held
  last_step (Err d) next w sound rest = absurd (true≢false sound)

  -- at an earlier step the walk's word ends too early
  earlier_step : (number : WordNumber) (next end : ℕ) (w : Walked) (g : WordNumber) → next < end → (met_before b number next w).damaged ≡ false
      → (w.damaged ≡ false → Agree (some_ends end w.edges) g) → Agree (some_ends end (met_before b number next w).edges) g
  earlier_step (Ok None) next end w g h sound rest = rest sound
  earlier_step (Ok (Some n)) next end w g h sound rest = rw (ne_eqb next end (λ e. omega arith)) (rest sound)
  earlier_step (Err d) next end w g h sound rest = absurd (true≢false sound)

  -- step by step, from any place
  agree : (cs : List ℕ) (p : ParentRef) (at n end : ℕ) → end ≡ at + suc n → suc n ≤ length cs → (walk_on b p at cs).damaged ≡ false
      → Agree (some_ends end (walk_on b p at cs).edges) (got_at (walk b.trie p (take (suc n) cs)))
  unfolding walk_on walk
  agree [] p at n end e h sound = absurd (omega arith)
  agree (c ∷ cs) p at n end e h sound = by n e h (λ q m. agree cs q (at + 1) m end) (tested_step b.trie p c) sound
    where
      by : (n : ℕ) → end ≡ at + suc n → suc n ≤ length (c ∷ cs)
          → ((q : ParentRef) (m : ℕ) → end ≡ at + 1 + suc m → suc m ≤ length cs → (walk_on b q (at + 1) cs).damaged ≡ false
          → Agree (some_ends end (walk_on b q (at + 1) cs).edges) (got_at (walk b.trie q (take (suc m) cs))))
          → (s : Step)
          → (walk_from (at + 1) cs s).damaged ≡ false
          → Agree (some_ends end (walk_from (at + 1) cs s).edges)
          (got_at (elim s [ Ok (Some q) ↦ walk b.trie q (take n cs) | Ok None ↦ Ok None | Err d ↦ Err d ]))
      by zero e h rest (Ok (Some q)) sound =
          let next : end ≡ at + 1 = omega arith in
          rw next (last_step (word_at b.head.records b.trie q) (at + 1) (walk_on b q (at + 1) cs) sound (ends_later cs q (at + 1) (at + 1) (omega arith)))
      by (suc m) e h rest (Ok (Some q)) sound =
          earlier_step (word_at b.head.records b.trie q) (at + 1) end (walk_on b q (at + 1) cs) _ (omega arith) sound
          (rest q m (omega arith) (omega arith))
      by n e h rest (Ok None) sound = neither
      by n e h rest (Err d) sound = absurd (true≢false sound)

  -- from the root, of no characters too: no word ends where its walk starts, and none is looked up
  agree_from_root : (at size : ℕ) (cs : List ℕ) → size ≤ length cs → (words_from b at cs).damaged ≡ false
      → Agree (some_ends (at + size) (words_from b at cs).edges) (looked_up b (take size cs))
  unfolding words_from get_of walk word_at
  agree_from_root at zero cs h sound = rw (ends_later cs Root at (at + 0) (omega arith)) neither
  agree_from_root at (suc n) cs h sound = agree cs Root at n (at + suc n) refl h sound

-- ---- the claims

-- the two parts of what is claimed
agree_same : (held : Bool) (g : WordNumber) → Agree held g → held ≡ is_held g
agree_same held g both_held = refl
agree_same held g neither = refl

agree_undamaged : (held : Bool) (g : WordNumber) → Agree held g → g ≢ Err damage
agree_undamaged held g both_held e = let z : ◌≡◌ {A = ℕ} 0 1 = cc in omega arith
agree_undamaged held g neither e = let z : ◌≡◌ {A = ℕ} 0 1 = cc in omega arith

as_looked_up : (b : Book) (word : List ℕ) (held : Bool) → Agree held (looked_up b word) → AsLookedUp b word held
as_looked_up b word held a = record { same = agree_same held _ a; undamaged = agree_undamaged held _ a }

pub search_words_are_held : SearchWordsAreHeld
search_words_are_held b at size cs h sound = as_looked_up b (take size cs) _ (agree_from_root b at size cs (omega arith) sound)

-- ---- the rows of a block

-- a block's edges, from a first position on: the first position's walk met no damage, and its edges are the first row
record FirstRow (w : Walked) (rest : Edges) (rows : List (List Edge)) : Type 0 where
  later : List (List Edge)
  sound : w.damaged ≡ false
  rest_is : rest ≡ edges later
  rows_are : rows ≡ w.edges ∷ later

first_row : (room : ℕ) (w : Walked) (ws : List Walked) (rows : List (List Edge)) → edges_within room (w ∷ ws) ≡ edges rows
    → FirstRow w (edges_within (room - length w.edges) ws) rows
unfolding edges_within
first_row room w ws rows e = by (ltb room (length w.edges)) w.damaged refl (edges_within (room - length w.edges) ws) e
  where
    by : (full damaged : Bool) → w.damaged ≡ damaged → (rest : Edges)
        → ◌≡◌ {A = Edges} (elim full [
          | true ↦ stopped (Err EdgesFull)
          | false ↦ elim damaged [ true ↦ stopped (Err DamagedBook) | false ↦ before w.edges rest ]
        ]) (edges rows)
        → FirstRow w rest rows
    by true damaged d rest q = let z : ◌≡◌ {A = ℕ} 0 1 = cc in absurd (omega arith)
    by false true d rest q = let z : ◌≡◌ {A = ℕ} 0 1 = cc in absurd (omega arith)
    by false false d (edges later) q = record { later = later; sound = d; rest_is = refl; rows_are = cc }
    by false false d (stopped o) q = let z : ◌≡◌ {A = ℕ} 0 1 = cc in absurd (omega arith)

-- a block of no characters has no rows, and no word is looked up
nothing_there : (b : Book) (room : ℕ) (rows : List (List Edge)) → edges_within room [] ≡ edges rows
    → (end : ℕ) → Agree (some_ends end (get_or rows 0 [])) (looked_up b [])
unfolding edges_within get_of walk word_at
nothing_there b room rows e end = let none : [] ≡ rows = cc in rw (← none) neither

-- the row of a position is its walk's edges, and that walk met no damage
rows_agree : (b : Book) (cs : List ℕ) (room at : ℕ) (rows : List (List Edge)) → edges_within room (walks_of (words_from b) at cs) ≡ edges rows
    → (from size end : ℕ) → end ≡ at + from + size → from + size ≤ length cs
    → Agree (some_ends end (get_or rows from [])) (looked_up b (take size (drop from cs)))
unfolding walks_of
rows_agree b [] room at rows e zero zero end q h = nothing_there b room rows e end
rows_agree b [] room at rows e zero (suc size) end q h = absurd (omega arith)
rows_agree b [] room at rows e (suc from) size end q h = absurd (omega arith)
rows_agree b (c ∷ cs) room at rows e zero size end q h =
    let first = first_row room (words_from b at (c ∷ cs)) (walks_of (words_from b) (at + 1) cs) rows e in
    let here : end ≡ at + size = omega arith in
    rw (first.rows_are, here) (agree_from_root b at size (c ∷ cs) (omega arith) first.sound)
rows_agree b (c ∷ cs) room at rows e (suc from) size end q h =
    let first = first_row room (words_from b at (c ∷ cs)) (walks_of (words_from b) (at + 1) cs) rows e in
    rw first.rows_are
    (rows_agree b cs (room - length (words_from b at (c ∷ cs)).edges) (at + 1) first.later first.rest_is from size end (omega arith) (omega arith))

pub held_between_is_looked_up : HeldBetweenIsLookedUp
held_between_is_looked_up b room cs rows e from size h = as_looked_up b _ _ (rows_agree b cs room 0 rows e from size (from + size) (omega arith) h)
