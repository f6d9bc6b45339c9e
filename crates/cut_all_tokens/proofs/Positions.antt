-- The walks from each position of a block: the loop of `cut_all_tokens`.
-- What is kept at each turn is `Positioned`: the words of the walks from `at` on, put after what is written so far, come to what the words of all walks
-- come to. A turn writes the words of one walk; if nothing stopped it, the walks from the next position go on behind them.
-- Assumes nothing.
use Rattle.std.specs.Prelude.{Result, Ok, Err}
use Prim.Native.Nat.{ℕ, ◌+◌, ◌≤◌, ◌<◌}
use mathlib.Core.Bool.{Bool, true, false, cond}
use mathlib.Core.List.{List, [], ◌∷◌}
use mathlib.Core.Path.{◌≡◌, refl, sym, ap, ◌∙◌}
use native.Mathlib.Omega.{arith}
use lib.ListN.{length, take, drop}
use lib.Seq.{length-take-le}
use Rattle.trie.specs.Trie.{trie_of}
use Rattle.book.specs.declared.Refusal.TheVariants.{Damaged}
use Rattle.book.specs.Returns.{Book}
use Rattle.book.specs.Prefixes.{Walked, words_from}
use Rattle.cuts.specs.declared.CutError.{CutError}
use Rattle.cuts.specs.Slices.{SeenAs, Placed}
use Rattle.cuts.specs.Edges.{walks_of}
use Rattle.cuts.specs.Tokens.{Base, Written, written}
use Rattle.cuts.specs.Cuts.{CutAnswer, answer, cut_answer, and_then, put_spans, spans_of, put_walks}
use Rattle.cuts.proofs.Sequence.{cut_goes_on, cut_stops, then_alike, then_after}
use Rattle.cuts.proofs.Walks.{no_more_walks, first_walk}
use Rattle.words_at.specs.Walks.{put_walk}

-- ---- the words of a first walk, and then those of the others

module _ (base : Base) (cs : List ℕ) (at : ℕ) where
  put_no_walks : (w : Written) → put_walks base cs at w [] ≡ answer (Ok tt) w
  unfolding put_walks
  put_no_walks w = refl

  -- damage stops what comes after a walk
  damage_stops : (damaged : Bool) (v : Written) (next : Written → CutAnswer)
      → and_then (cond damaged (answer (Err Damaged) v) (answer (Ok tt) v)) next ≡ cond damaged (answer (Err Damaged) v) (next v)
  damage_stops true v next = refl
  damage_stops false v next = refl

  -- the words of a walk, and then those of the other walks
  put_walk_first : (w : Written) (walk : Walked) (walks : List Walked)
      → put_walks base cs at w (walk ∷ walks) ≡ and_then (put_walk base cs at w walk) (λ v. put_walks base cs (at + 1) v walks)
  unfolding put_walks put_walk
  put_walk_first w walk walks =
      let spans = put_spans base cs w (spans_of at walk.edges) in
      let rest : Written → CutAnswer = λ v. put_walks base cs (at + 1) v walks in
      sym
      (then_after spans (λ v. cond walk.damaged (answer (Err Damaged) v) (answer (Ok tt) v)) rest
      ∙ then_alike spans _ _ (λ v. damage_stops walk.damaged v rest))

-- ---- the loop

-- where it stands: before the position `at`, with so many tokens written. The walks from there on, put after them, come to what all walks of the block
-- come to, in each book that has these tables, and wherever the block stands
pub record Positioned (roots slots : List ℕ) (used : ℕ) (chars offsets : List ℕ)
    (n base : ℕ) (tokens₀ : List ℕ) (count₀ : ℕ) (tokens : List ℕ) (count at : ℕ) : Type 0 where
  pub last : at ≤ n
  pub long : length tokens ≡ length tokens₀
  pub same : (b : Book) (place : Base)
      → SeenAs b (trie_of roots slots) used
      → Placed place base (take n chars) offsets
      → put_walks place (take n chars) at (written count tokens) (walks_of (words_from b) at (drop at (take n chars)))
      ≡ put_walks place (take n chars) 0 (written count₀ tokens₀) (walks_of (words_from b) 0 (take n chars))

-- before the first position
pub begins : (roots slots : List ℕ) (used : ℕ) (chars offsets : List ℕ)
    (n base : ℕ) (tokens : List ℕ) (count : ℕ)
    → Positioned roots slots used chars offsets n base tokens count tokens count 0
begins roots slots used chars offsets n base tokens count =
    record { last = omega arith; long = refl; same = λ b place seen known. refl }

module _ {roots slots : List ℕ} {used : ℕ} {chars offsets : List ℕ}
    {n base : ℕ} {tokens₀ : List ℕ} {count₀ : ℕ} {tokens : List ℕ} {count at : ℕ}
    (here : Positioned roots slots used chars offsets n base tokens₀ count₀ tokens count at)
    (long : n ≤ length chars) where
  abbrev Seen : Book → Type 0
  Seen b = SeenAs b (trie_of roots slots) used

  -- the block's characters
  abbrev cs : List ℕ
  cs = take n chars

  cs_long : length cs ≡ n
  cs_long = length-take-le n chars long

  -- what the function ensures, where it ends with this answer
  abbrev Ensured : CutAnswer → Type 0
  Ensured a = (b : Book) (place : Base) → Seen b → Placed place base cs offsets → a ≡ put_walks place cs 0 (written count₀ tokens₀) (walks_of (words_from b) 0 cs)

  -- what all walks come to, by the walks from here on
  comes_to : (b : Book) (place : Base)
      → Seen b
      → Placed place base cs offsets
      → (walks : List Walked)
      → walks_of (words_from b) at (drop at cs) ≡ walks
      → put_walks place cs at (written count tokens) walks ≡ put_walks place cs 0 (written count₀ tokens₀) (walks_of (words_from b) 0 cs)
  comes_to b place seen known walks e =
      ap (put_walks place cs at (written count tokens)) (sym e) ∙ here.same b place seen known

  -- the block ends
  pub ends_here : n ≤ at → Ensured (answer (Ok tt) (written count tokens))
  ends_here past b place seen known =
      sym (put_no_walks place cs at (written count tokens))
      ∙ comes_to b place seen known [] (no_more_walks (words_from b) at cs (omega (arith, cs_long)))

  -- the walk from here, which `words_at` answers with `put`
  module _ (more : at < n) (put : Result ℕ CutError) (after : List ℕ)
      (walked : (b : Book) (place : Base) → Seen b → Placed place base cs offsets
      → cut_answer put after ≡ put_walk place cs at (written count tokens) (words_from b at (drop at cs))) where
    -- the walks from the next position on
    abbrev rest : Book → List Walked
    rest b = walks_of (words_from b) (at + 1) (drop (at + 1) cs)

    with_rest : (b : Book) (place : Base)
        → Seen b
        → Placed place base cs offsets
        → and_then (cut_answer put after) (λ v. put_walks place cs (at + 1) v (rest b))
        ≡ put_walks place cs 0 (written count₀ tokens₀) (walks_of (words_from b) 0 cs)
    with_rest b place seen known =
        ap (λ (a : CutAnswer). and_then a (λ v. put_walks place cs (at + 1) v (rest b))) (walked b place seen known)
        ∙ sym (put_walk_first place cs at (written count tokens) (words_from b at (drop at cs)) (rest b))
        ∙ comes_to b place seen known _ (first_walk (words_from b) at cs (omega (arith, cs_long)))

    -- the walk is stopped
    pub ends_stopped : {e : CutError} → put ≡ Err e → Ensured (cut_answer (Err e) after)
    ends_stopped other b place seen known =
        sym (cut_stops after (λ v. put_walks place cs (at + 1) v (rest b)) other) ∙ with_rest b place seen known

    -- its words are written
    pub goes_behind : {m : ℕ} → put ≡ Ok m
        → length after ≡ length tokens
        → Positioned roots slots used chars offsets n base tokens₀ count₀ after m (at + 1)
    goes_behind done kept =
        record {
          last = omega arith;
          long = kept ∙ here.long;
          same = λ b place seen known.
              sym (cut_goes_on after (λ v. put_walks place cs (at + 1) v (rest b)) done) ∙ with_rest b place seen known;
        }
