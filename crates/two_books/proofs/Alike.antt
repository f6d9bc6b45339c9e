-- Cuts of one sentence by two vocabularies. A cut takes the words of a vocabulary only at the positions of the sentence's blocks, and of what follows a
-- position only up to the block's end. So where the two agree on these, and on the total, every cut is the same: by congruence, block by block.
-- Assumes nothing.
use Rattle.std.specs.Prelude.{Err}
use mathlib.Core.Path.{◌≡◌, refl, ap, ◌∙◌}
use mathlib.Core.Bool.{Bool, true, false, cond, ◌&&◌, beq}
use mathlib.Core.List.{List, [], ◌∷◌, ◌++◌}
use mathlib.Core.Option.{Option, none, some}
use Prim.Native.Nat.{ℕ, ◌+◌, ◌%◌, ◌≤◌}
use borrow.Author.Tests.{leb-true}
use lib.Dec.{eqb, leb, ltb}
use lib.ListN.{length}
use Rattle.utf8.specs.Text.{chars_of}
use Rattle.book.specs.declared.Refusal.TheVariants.{BadAreas, TooLong, Damaged, WorkTooShort}
use Rattle.book.specs.Returns.{longest_text}
use Rattle.cuts.specs.Blocks.{Block, onto, blocks_of}
use Rattle.cuts.specs.Edges.{Vocabulary, walks_of}
use Rattle.cuts.specs.Tokens.{Base, Written, written, token_width}
use Rattle.cuts.specs.Cuts.{CutAnswer, answer, and_then, cut_block, cut_all_block, search_block, behind, cut_blocks, start, Tested, cut_chars, cut_with}
use Rattle.cuts.proofs.Sequence.{then_alike}

-- ---- the blocks are the sentence, cut in pieces

abbrev text_of : List Block → List ℕ
text_of [] = []
text_of (b ∷ bs) = b.chars ++ text_of bs

onto_text : (m : Bool) (c : ℕ) (bs : List Block) → text_of (onto m c bs) ≡ c ∷ text_of bs
onto_text m c [] = refl
onto_text m c (b ∷ bs) = by (beq m b.matched)
  where
    by : (same : Bool) → text_of (elim same [
      | true ↦ record { matched = m; chars = c ∷ b.chars } ∷ bs
      | false ↦ record { matched = m; chars = c ∷ [] } ∷ b ∷ bs
    ]) ≡ c ∷ text_of (b ∷ bs)
    by true = refl
    by false = refl

pub blocks_text : (class : ℕ → Bool) (cs : List ℕ) → text_of (blocks_of class cs) ≡ cs
unfolding blocks_of
blocks_text class [] = refl
blocks_text class (c ∷ cs) = onto_text (class c) c (blocks_of class cs) ∙ ap (λ (l : List ℕ). c ∷ l) (blocks_text class cs)

-- ---- what holds at every position

-- what is said of the characters from a position on holds at each position of a text
abbrev pub Everywhere : (List ℕ → Type 0) → List ℕ → Type 0
Everywhere Q [] = Unit {0}
Everywhere Q (c ∷ cs) = Q (c ∷ cs) × Everywhere Q cs

-- it holds too where fewer characters follow
abbrev pub Shortens : (List ℕ → Type 0) → Type 0
Shortens Q = (c : ℕ) (cs ds : List ℕ) → Q (c ∷ (cs ++ ds)) → Q (c ∷ cs)

module _ (Q : List ℕ → Type 0) (shortens : Shortens Q) where
  first_part : (xs ys : List ℕ) → Everywhere Q (xs ++ ys) → Everywhere Q xs
  first_part [] ys h = tt
  first_part (x ∷ xs) ys h = (shortens x xs ys h.0, first_part xs ys h.1)

  second_part : (xs ys : List ℕ) → Everywhere Q (xs ++ ys) → Everywhere Q ys
  second_part [] ys h = h
  second_part (x ∷ xs) ys h = second_part xs ys h.1

  -- so it holds at each position of each block
  abbrev EachBlock : List Block → Type 0
  EachBlock [] = Unit {0}
  EachBlock (b ∷ bs) = Everywhere Q b.chars × EachBlock bs

  each_of : (bs : List Block) → Everywhere Q (text_of bs) → EachBlock bs
  each_of [] h = tt
  each_of (b ∷ bs) h = (first_part b.chars (text_of bs) h, each_of bs (second_part b.chars (text_of bs) h))

  each_block : (class : ℕ → Bool) (cs : List ℕ) → Everywhere Q cs → EachBlock (blocks_of class cs)
  each_block class cs h = each_of (blocks_of class cs) (rw blocks_text h)

  -- a cut that is the same of each such block is the same of all of them
  blocks_alike : (one one' : Base → Block → Written → CutAnswer)
      → ((base : Base) (b : Block) (w : Written) → Everywhere Q b.chars → one base b w ≡ one' base b w)
      → (bs : List Block) → EachBlock bs → (base : Base) (w : Written) → cut_blocks one base bs w ≡ cut_blocks one' base bs w
  unfolding cut_blocks
  blocks_alike one one' same [] h base w = refl
  blocks_alike one one' same (b ∷ bs) h base w =
      let next : Base = behind base b.chars in
      then_alike (one base b w) (cut_blocks one next bs) (cut_blocks one' next bs) (blocks_alike one one' same bs h.1 next)
      ∙ ap (λ (a : CutAnswer). and_then a (cut_blocks one' next bs)) (same base b w h.0)

  -- ---- two vocabularies

  module _ (v v' : Vocabulary) (same_words : (cs : List ℕ) → Q cs → (at : ℕ) → v.words at cs ≡ v'.words at cs) (same_total : v.total ≡ v'.total) where
    walks_alike : (at : ℕ) (cs : List ℕ) → Everywhere Q cs → walks_of v.words at cs ≡ walks_of v'.words at cs
    unfolding walks_of
    walks_alike at [] h = refl
    walks_alike at (c ∷ cs) h = rw (same_words (c ∷ cs) h.0 at, walks_alike (at + 1) cs h.1)

    -- a block of either kind; outside the class nothing is walked
    cut_one : (room : ℕ) (base : Base) (b : Block) (w : Written) → Everywhere Q b.chars → cut_block v room base b w ≡ cut_block v' room base b w
    unfolding cut_block
    cut_one room base b w e = by b.matched
      where
        by : (m : Bool) → cut_block v room base (record { matched = m; chars = b.chars }) w ≡ cut_block v' room base (record { matched = m; chars = b.chars }) w
        by true = rw (walks_alike 0 b.chars e, same_total)
        by false = refl

    search_one : (room : ℕ) (base : Base) (b : Block) (w : Written) → Everywhere Q b.chars → search_block v room base b w ≡ search_block v' room base b w
    unfolding search_block
    search_one room base b w e = by b.matched
      where
        by : (m : Bool) → search_block v room base (record { matched = m; chars = b.chars }) w
            ≡ search_block v' room base (record { matched = m; chars = b.chars }) w
        by true = rw (walks_alike 0 b.chars e, same_total)
        by false = refl

    all_one : (base : Base) (b : Block) (w : Written) → Everywhere Q b.chars → cut_all_block v base b w ≡ cut_all_block v' base b w
    unfolding cut_all_block
    all_one base b w e = by b.matched
      where
        by : (m : Bool) → cut_all_block v base (record { matched = m; chars = b.chars }) w ≡ cut_all_block v' base (record { matched = m; chars = b.chars }) w
        by true = rw (walks_alike 0 b.chars e)
        by false = refl

    pub cut_alike : (room : ℕ) (class : ℕ → Bool) (cs : List ℕ) → Everywhere Q cs → (w : Written)
        → cut_blocks (cut_block v room) start (blocks_of class cs) w ≡ cut_blocks (cut_block v' room) start (blocks_of class cs) w
    cut_alike room class cs h w = blocks_alike (cut_block v room) (cut_block v' room) (cut_one room) (blocks_of class cs) (each_block class cs h) start w

    pub search_alike : (room : ℕ) (class : ℕ → Bool) (cs : List ℕ) → Everywhere Q cs → (w : Written)
        → cut_blocks (search_block v room) start (blocks_of class cs) w ≡ cut_blocks (search_block v' room) start (blocks_of class cs) w
    search_alike room class cs h w = blocks_alike (search_block v room) (search_block v' room) (search_one room) (blocks_of class cs)
        (each_block class cs h) start w

    pub all_alike : (class : ℕ → Bool) (cs : List ℕ) → Everywhere Q cs → (w : Written)
        → cut_blocks (cut_all_block v) start (blocks_of class cs) w ≡ cut_blocks (cut_all_block v') start (blocks_of class cs) w
    all_alike class cs h w = blocks_alike (cut_all_block v) (cut_all_block v') all_one (blocks_of class cs) (each_block class cs h) start w

-- ---- the tests before

-- after the same tests, what is the same of the sentence's characters is the same of the sentence
pub tests_alike : (t : Tested) (work : ℕ) (area sentence : List ℕ) (cutting cutting' : List ℕ → Written → CutAnswer)
    → ((cs : List ℕ) → length sentence ≤ longest_text → chars_of sentence ≡ some cs → (w : Written) → cutting cs w ≡ cutting' cs w)
    → cut_with t work area cutting sentence ≡ cut_with t work area cutting' sentence
unfolding cut_with
tests_alike t work area sentence cutting cutting' same =
    ap (λ (a : CutAnswer). cond (t.sizes && eqb (length area % token_width) 0) a (answer (Err BadAreas) (written 0 area)))
    (by_length (leb (length sentence) longest_text) refl)
  where
    by_chars : (cs : Option (List ℕ)) → length sentence ≤ longest_text → chars_of sentence ≡ cs
        → cut_chars t work cutting (written 0 area) cs ≡ cut_chars t work cutting' (written 0 area) cs
    by_chars none l e = refl
    by_chars (some cs) l e =
        ap (λ (a : CutAnswer). cond (ltb work (length cs + 1)) (answer (Err WorkTooShort) (written 0 area))
        (cond t.damage (answer (Err Damaged) (written 0 area)) a)) (same cs l e (written 0 area))

    by_length : (z : Bool) → leb (length sentence) longest_text ≡ z
        → cond z (cut_chars t work cutting (written 0 area) (chars_of sentence)) (answer (Err TooLong) (written 0 area))
        ≡ cond z (cut_chars t work cutting' (written 0 area) (chars_of sentence)) (answer (Err TooLong) (written 0 area))
    by_length true l = by_chars (chars_of sentence) (leb-true (length sentence) longest_text l) refl
    by_length false l = refl
