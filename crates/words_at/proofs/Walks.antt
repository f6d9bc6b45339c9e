-- The walk from one position, a character at a time: the loop of `words_at`.
-- What is kept at each turn is `Walking`: the words that the walk from the place on meets, put after what is written so far, come to what the words of the
-- whole walk come to. How the walk goes on is `cuts`'s law. A word there is one token, and if it has found its place the rest goes on behind it; where the
-- walk ends, or the book is damaged, or there is no place, nothing follows.
-- Assumes nothing.
use Rattle.std.specs.Prelude.{Result, Ok, Err}
use Prim.Native.Nat.{ℕ, ◌+◌, ◌≤◌, ◌<◌}
use mathlib.Core.List.{List, [], ◌∷◌}
use mathlib.Core.Bool.{cond}
use mathlib.Core.Path.{◌≡◌, refl, sym, ap, ◌∙◌}
use native.Mathlib.Omega.{arith}
use lib.ListN.{length, get_or, take, drop}
use lib.Seq.{length-take-le}
use Rattle.std.specs.Prelude.{Ok, Err, Some, None}
use Rattle.trie.specs.declared.ParentRef.{ParentRef}
use Rattle.trie.specs.declared.ParentRef.TheVariants.{Root}
use Rattle.trie.specs.Trie.{SlotTable, tested_step, word_at, trie_of, Step, WordNumber, damage}
use Rattle.book.specs.Returns.{Book}
use Rattle.book.specs.declared.Refusal.TheVariants as Refusal
use Rattle.book.specs.Prefixes.{Edge, Walked, ended, broken, words_from}
use Rattle.cuts.specs.declared.CutError.{CutError}
use Rattle.cuts.specs.Slices.{SeenAs, Placed}
use Rattle.cuts.specs.Tokens.{span, Base, Written, written}
use Rattle.cuts.specs.Cuts.{CutAnswer, answer, cut_answer, and_then, put_spans, spans_of}
use Rattle.cuts.proofs.Sequence.{cut_goes_on, cut_stops, then_after, put_then}
use Rattle.cuts.proofs.Walks.{Walk, at_root, at_end, at_nothing, at_damage, rest, on_from, past, at_bad, at_word}
use Rattle.words_at.specs.Walks.{put_walk}

-- ---- what a walk met, put into the token area

module _ (base : Base) (cs : List ℕ) (at : ℕ) where
  put_ended : (w : Written) → put_walk base cs at w ended ≡ answer (Ok tt) w
  unfolding put_walk put_spans
  put_ended w = refl

  put_broken : (w : Written) → put_walk base cs at w broken ≡ answer (Err Refusal.Damaged) w
  unfolding put_walk put_spans
  put_broken w = refl

  -- a word, and then the rest of the walk
  put_met : (w : Written) (e : Edge) (walk : Walked)
      → put_walk base cs at w (record { edges = e ∷ walk.edges; damaged = walk.damaged })
      ≡ and_then (put_spans base cs w (span at e.end ∷ [])) (λ v. put_walk base cs at v walk)
  unfolding put_walk
  put_met w e walk =
      let last : Written → CutAnswer = λ v. cond walk.damaged (answer (Err Refusal.Damaged) v) (answer (Ok tt) v) in
      ap (λ (a : CutAnswer). and_then a last) (put_then base cs w (span at e.end) (spans_of at walk.edges))
      ∙ then_after (put_spans base cs w (span at e.end ∷ [])) (λ v. put_spans base cs v (spans_of at walk.edges)) last

-- ---- the loop

-- what a walk meets, put after so many tokens, comes to what the walk from `at` comes to, wherever the block stands
abbrev ComesTo : List ℕ → List ℕ → ℕ → ℕ → ℕ → List ℕ → ℕ → List ℕ → ℕ → Book → Walked → Type 0
ComesTo chars offsets n at base tokens₀ count₀ tokens count b w =
    (site : Base) → Placed site base (take n chars) offsets
    → put_walk site (take n chars) at (written count tokens) w
    ≡ put_walk site (take n chars) at (written count₀ tokens₀) (words_from b at (drop at (take n chars)))

-- where it stands: at a place, before a character, with so many tokens written
pub record Walking (roots slots : List ℕ) (used : ℕ) (chars offsets : List ℕ)
    (n at base : ℕ) (tokens₀ : List ℕ) (count₀ : ℕ) (tokens : List ℕ) (count : ℕ) (place : ParentRef) (next : ℕ) : Type 0 where
  pub walk : Walk (ComesTo chars offsets n at base tokens₀ count₀ tokens count) roots slots used chars n at place next
  pub long : length tokens ≡ length tokens₀

-- at the root, before the first character
pub begins : (roots slots : List ℕ) (used : ℕ) (chars offsets : List ℕ)
    (n at base : ℕ) (tokens : List ℕ) (count : ℕ)
    → at < n
    → Walking roots slots used chars offsets n at base tokens count tokens count Root at
begins roots slots used chars offsets n at base tokens count more =
    record { walk = at_root more (λ b seen site known. refl); long = refl }

module _ {roots slots : List ℕ} {used : ℕ} {chars offsets : List ℕ}
    {n at base : ℕ} {tokens₀ : List ℕ} {count₀ : ℕ} {tokens : List ℕ} {count : ℕ} {place : ParentRef} {next : ℕ}
    (here : Walking roots slots used chars offsets n at base tokens₀ count₀ tokens count place next)
    (long : n ≤ length chars) where
  abbrev Seen : Book → Type 0
  Seen b = SeenAs b (trie_of roots slots) used

  -- the block's characters
  abbrev cs : List ℕ
  cs = take n chars

  -- what the function ensures, where it ends with this answer
  abbrev Ensured : CutAnswer → Type 0
  Ensured a = (b : Book) (site : Base) → Seen b → Placed site base cs offsets → a ≡ put_walk site cs at (written count₀ tokens₀) (words_from b at (drop at cs))

  -- nothing more is met
  by_end : ((b : Book) → Seen b → ComesTo chars offsets n at base tokens₀ count₀ tokens count b ended) → Ensured (answer (Ok tt) (written count tokens))
  by_end met b site seen known = sym (put_ended site cs at (written count tokens)) ∙ met b seen site known

  -- damage is next
  by_damage : ((b : Book) → Seen b → ComesTo chars offsets n at base tokens₀ count₀ tokens count b broken)
      → Ensured (answer (Err Refusal.Damaged) (written count tokens))
  by_damage met b site seen known = sym (put_broken site cs at (written count tokens)) ∙ met b seen site known

  -- the block ends
  pub ends_here : n ≤ next → Ensured (answer (Ok tt) (written count tokens))
  ends_here beyond = by_end (at_end here.walk long beyond)

  -- there is a character, and its step is taken
  module _ {r : Step} (more : next < n)
      (step : r ≡ tested_step (trie_of roots slots) place (get_or chars next 0)) where
    -- no step leads on
    pub ends_nothing : r ≡ Ok None → Ensured (answer (Ok tt) (written count tokens))
    ends_nothing e = by_end (at_nothing here.walk long more step e)

    -- a probe has no end
    pub ends_damaged : r ≡ Err damage → Ensured (answer (Err Refusal.Damaged) (written count tokens))
    ends_damaged e = by_damage (at_damage here.walk long more step e)

    -- the step leads to a place, and the word number there is read
    module _ {q : ParentRef} (stepped : r ≡ Ok (Some q)) {number : WordNumber}
        (read : number ≡ word_at used (trie_of roots slots) q) where
      -- a bad word number
      pub ends_bad : number ≡ Err damage → Ensured (answer (Err Refusal.Damaged) (written count tokens))
      ends_bad e = by_damage (at_bad here.walk long more step stepped read e)

      -- no word ends there
      pub goes_past : {shift : ℕ} → SlotTable (length slots) shift
          → number ≡ Ok None
          → Walking roots slots used chars offsets n at base tokens₀ count₀ tokens count q (next + 1)
      goes_past allowed e = record { walk = past here.walk long more step stepped read allowed e; long = here.long }

      -- a word ends there, and `emit_span` answers its token with `put`
      module _ {k : ℕ} (word : number ≡ Ok (Some k)) (put : Result ℕ CutError) (after : List ℕ)
          (emitted : (site : Base) (chars' : List ℕ) → Placed site base chars' offsets → next + 1 ≤ length chars'
          → cut_answer put after ≡ put_spans site chars' (written count tokens) (span at (next + 1) ∷ [])) where
        -- what the walk on from the word's place meets
        abbrev onward : Book → Walked
        onward b = rest here.walk long more step stepped b

        with_rest : (b : Book) (site : Base)
            → Seen b
            → Placed site base cs offsets
            → and_then (cut_answer put after) (λ v. put_walk site cs at v (onward b))
            ≡ put_walk site cs at (written count₀ tokens₀) (words_from b at (drop at cs))
        with_rest b site seen known =
            ap (λ (a : CutAnswer). and_then a (λ v. put_walk site cs at v (onward b))) (emitted site cs known (omega (arith, length-take-le n chars long)))
            ∙ sym (put_met site cs at (written count tokens) _ (onward b))
            ∙ at_word here.walk long more step stepped read word b seen site known

        -- the token finds no place
        pub ends_full : {e : CutError} → put ≡ Err e → Ensured (cut_answer (Err e) after)
        ends_full other b site seen known =
            sym (cut_stops after (λ v. put_walk site cs at v (onward b)) other) ∙ with_rest b site seen known

        -- the token is written
        pub goes_behind : {shift : ℕ} → SlotTable (length slots) shift
            → {m : ℕ} → put ≡ Ok m
            → length after ≡ length tokens
            → Walking roots slots used chars offsets n at base tokens₀ count₀ after m q (next + 1)
        goes_behind allowed done kept =
            record {
              walk =
                  on_from here.walk long more step stepped allowed
                  (λ b seen site known. sym (cut_goes_on after (λ v. put_walk site cs at v (onward b)) done) ∙ with_rest b site seen known);
              long = kept ∙ here.long;
            }
