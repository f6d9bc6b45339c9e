-- The walk from a position of a block, a character at a time, as the code takes it in two loops: one keeps the words that it meets as edges, the other writes
-- them as tokens. What is kept at each turn is `Walk`: whatever is wanted of the words holds of those that the walk on from the place meets. A turn takes
-- one character off what is left, by the step that it takes and the word number that it reads there. Assumes nothing.
use Prim.Native.Nat.{ℕ, ◌+◌, ◌/◌, ◌≤◌, ◌<◌}
use mathlib.Core.List.{List, [], ◌∷◌}
use mathlib.Core.Path.{◌≡◌, sym, ap, subst, ◌∙◌}
use native.Mathlib.Nat.{le_refl}
use native.Mathlib.Numerals.{add-one}
use native.Mathlib.Omega.{arith}
use lib.Ieee.{nan}
use lib.ListN.{length, get_or, take, drop, drop_of_length-le}
use lib.Seq.{drop-cons, get_or-take, length-take-le}
use Rattle.std.specs.Prelude.{Ok, Err, Some, None}
use Rattle.trie.specs.declared.ParentRef.{ParentRef}
use Rattle.trie.specs.declared.ParentRef.TheVariants.{Root}
use Rattle.trie.specs.Trie.{CharTrie, SlotTable, tested_step, word_at, trie_of, Step, WordNumber, damage}
use Rattle.walk.specs.Walk.{Inside}
use Rattle.walk.proofs.Places.{starts_inside, leads_tested}
use Rattle.book.specs.Returns.{Book}
use Rattle.book.specs.Prefixes.{Walked, ended, broken, met_before, walk_on, words_from}
use Rattle.cuts.specs.Slices.{SeenAs}
use Rattle.cuts.specs.Edges.{walks_of}

-- ---- walks from the positions of a block, the first before the others

module _ (words : ℕ → List ℕ → Walked) (at : ℕ) (cs : List ℕ) where
  pub no_more_walks : length cs ≤ at → walks_of words at (drop at cs) ≡ []
  unfolding walks_of
  no_more_walks past = rw (drop_of_length-le cs {i = at} past)

  pub first_walk : at < length cs → walks_of words at (drop at cs) ≡ words at (drop at cs) ∷ walks_of words (at + 1) (drop (at + 1) cs)
  unfolding walks_of
  first_walk more =
      let split : drop at cs ≡ get_or cs at 0 ∷ drop (at + 1) cs = drop-cons cs at 0 more ∙ rw (add-one at) in
      ap (walks_of words at) split ∙ ap (λ (l : List ℕ). words at l ∷ walks_of words (at + 1) (drop (at + 1) cs)) (sym split)

-- ---- a walk on from a place, by the step of the character there

module _ (b : Book) (p : ParentRef) (next : ℕ) (cs : List ℕ) where
  -- what the walk on from there meets
  abbrev onward : Walked
  onward = walk_on b p next (drop next cs)

  on_end : length cs ≤ next → onward ≡ ended
  unfolding walk_on
  on_end past = rw (drop_of_length-le cs {i = next} past)

  module _ (ch : ℕ) (more : next < length cs) (char : get_or cs next 0 ≡ ch) (r : Step) (step : r ≡ tested_step b.trie p ch) where
    split : drop next cs ≡ ch ∷ drop (next + 1) cs
    split = drop-cons cs next 0 more ∙ rw (char, add-one next)

    on_nothing : r ≡ Ok None → onward ≡ ended
    unfolding walk_on
    on_nothing e = rw (split, ← step, e, walk_on)

    on_damaged : r ≡ Err damage → onward ≡ broken
    unfolding walk_on
    on_damaged e = rw (split, ← step, e, walk_on)

    module _ (q : ParentRef) (at : r ≡ Ok (Some q)) (number : WordNumber) (read : number ≡ word_at b.head.records b.trie q) where
      on_word : onward ≡ met_before b number (next + 1) (walk_on b q (next + 1) (drop (next + 1) cs))
      unfolding walk_on
      on_word = rw (split, ← step, at, walk_on, ← read)

-- ---- the loop

-- where it stands: at a place of the tables, before a character of the block's n. In each book that has these tables, `Wanted` holds of what the walk on
-- from there meets
pub record Walk (Wanted : Book → Walked → Type 0)
    (roots slots : List ℕ) (used : ℕ) (chars : List ℕ)
    (n at : ℕ) (place : ParentRef) (next : ℕ) : Type 0 where
  pub first : at ≤ next
  pub last : next ≤ n
  pub inside : Inside (length roots) (length slots / 2) place
  pub wanted : (b : Book) → SeenAs b (trie_of roots slots) used → Wanted b (walk_on b place next (drop next (take n chars)))

-- at the root, before the first character
pub at_root : {Wanted : Book → Walked → Type 0}
    {roots slots : List ℕ} {used : ℕ} {chars : List ℕ} {n at : ℕ}
    → at < n
    → ((b : Book) → SeenAs b (trie_of roots slots) used → Wanted b (words_from b at (drop at (take n chars))))
    → Walk Wanted roots slots used chars n at Root at
unfolding words_from
at_root {at = at} more wanted = record { first = le_refl at; last = omega arith; inside = starts_inside _ _; wanted = wanted }

module _ {Wanted : Book → Walked → Type 0}
    {roots slots : List ℕ} {used : ℕ} {chars : List ℕ}
    {n at : ℕ} {place : ParentRef} {next : ℕ}
    (here : Walk Wanted roots slots used chars n at place next)
    (long : n ≤ length chars) where
  abbrev Seen : Book → Type 0
  Seen b = SeenAs b (trie_of roots slots) used

  -- the block's characters
  abbrev cs : List ℕ
  cs = take n chars

  cs_long : length cs ≡ n
  cs_long = length-take-le n chars long

  -- the block ends
  pub at_end : n ≤ next → (b : Book) → Seen b → Wanted b ended
  at_end past b seen = subst (Wanted b) (on_end b place next cs (omega (arith, cs_long))) (here.wanted b seen)

  -- there is a character, and its step is taken
  module _ {r : Step} (more : next < n)
      (step : r ≡ tested_step (trie_of roots slots) place (get_or chars next 0)) where
    char : get_or cs next 0 ≡ get_or chars next 0
    char = get_or-take n chars next 0 more

    in_cs : next < length cs
    in_cs = omega (arith, cs_long)

    step_in : (b : Book) → Seen b → r ≡ tested_step b.trie place (get_or chars next 0)
    step_in b seen = step ∙ ap (λ (t : CharTrie). tested_step t place (get_or chars next 0)) (sym seen.same_trie)

    -- no step leads on
    pub at_nothing : r ≡ Ok None → (b : Book) → Seen b → Wanted b ended
    at_nothing e b seen = subst (Wanted b) (on_nothing b place next cs _ in_cs char r (step_in b seen) e) (here.wanted b seen)

    -- a probe has no end
    pub at_damage : r ≡ Err damage → (b : Book) → Seen b → Wanted b broken
    at_damage e b seen = subst (Wanted b) (on_damaged b place next cs _ in_cs char r (step_in b seen) e) (here.wanted b seen)

    -- the step leads to a place
    module _ {q : ParentRef} (stepped : r ≡ Ok (Some q)) where
      pub next_inside : {shift : ℕ} → SlotTable (length slots) shift → Inside (length roots) (length slots / 2) q
      next_inside {shift} allowed = leads_tested roots slots shift allowed place q (get_or chars next 0) r stepped step

      -- what the walk on from there meets
      abbrev pub rest : Book → Walked
      rest b = walk_on b q (next + 1) (drop (next + 1) cs)

      -- the walk goes on from there, and what is wanted holds of what it meets
      pub on_from : {Wanted' : Book → Walked → Type 0}
          → {shift : ℕ} → SlotTable (length slots) shift
          → ((b : Book) → Seen b → Wanted' b (rest b))
          → Walk Wanted' roots slots used chars n at q (next + 1)
      on_from allowed wanted = record { first = omega (arith, here.first); last = omega arith; inside = next_inside allowed; wanted = wanted }

      -- the word number there is read
      module _ {number : WordNumber}
          (read : number ≡ word_at used (trie_of roots slots) q) where
        read_in : (b : Book) → Seen b → number ≡ word_at b.head.records b.trie q
        read_in b seen = read ∙ rw (seen.same_trie, seen.records)

        -- it is this one
        module _ {known : WordNumber} (e : number ≡ known) where
          at_number : (b : Book) → Seen b → Wanted b (met_before b known (next + 1) (rest b))
          at_number b seen = subst (Wanted b) (on_word b place next cs _ in_cs char r (step_in b seen) q stepped known (sym e ∙ read_in b seen))
              (here.wanted b seen)

        -- a bad word number
        pub at_bad : number ≡ Err damage → (b : Book) → Seen b → Wanted b broken
        at_bad e b seen = at_number e b seen

        -- no word ends there
        pub past : {shift : ℕ} → SlotTable (length slots) shift → number ≡ Ok None → Walk Wanted roots slots used chars n at q (next + 1)
        past allowed e = on_from allowed (at_number e)

        -- a word ends there
        pub at_word : {k : ℕ} → number ≡ Ok (Some k) → (b : Book) → Seen b
            → Wanted b (record { edges = record { end = next + 1; logarithm = get_or b.logarithms k nan } ∷ (rest b).edges; damaged = (rest b).damaged })
        at_word e b seen = at_number e b seen
