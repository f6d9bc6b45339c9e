-- A cut whole: what the tests before it say, and the blocks of the sentence after them.
-- Assumes nothing.
use Rattle.std.specs.Prelude.{Ok}
use mathlib.Core.Path.{◌≡◌, sym, ap, ◌∙◌}
use mathlib.Core.Bool.{true, false}
use mathlib.Core.List.{List}
use mathlib.Core.Option.{IsSome}
use Prim.Native.Nat.{ℕ, ◌≤◌, ◌<◌}
use native.Mathlib.Omega.{arith}
use lib.Ieee.{Float}
use lib.ListN.{length}
use Rattle.utf8.specs.Text.{chars_of}
use Rattle.classes.specs.Blocks.{cut_class}
use Rattle.book.specs.Returns.{Book, is_done, Outcome}
use Rattle.cuts.specs.declared.TokenizeMode.{TokenizeMode}
use Rattle.cuts.specs.declared.TokenizeMode.TheVariants.{Default, Search}
use Rattle.cuts.specs.Blocks.{blocks_of}
use Rattle.cuts.specs.Edges.{vocabulary_of}
use Rattle.cuts.specs.Slices.{shorter}
use Rattle.cuts.specs.Tokens.{written}
use Rattle.cuts.specs.Cuts.{CutAnswer, answer, cut_blocks, start, Tested, tested_book, cut_with, begins, cut_of, cut_for_search_of, tokenize_of}
use Rattle.sentence.proofs.Beginning.{Begun, refused, begun, has_begun, shorter_first_lem, shorter_second}
use Rattle.runs.specs.Runs.{text_from}
use Rattle.splitter.proofs.Sentences.{text_start}
use Rattle.block.specs.Plans.{WorkFits, block_by}
use Rattle.cut_sentence.specs.Areas.{work_of}

-- by either mode, block by block after the tests
by_blocks : (mode : TokenizeMode) (b : Book) (t : Tested) → t ≡ tested_book b → (work room : ℕ) (tokens sentence : List ℕ)
    → tokenize_of mode b work room tokens sentence
    ≡ cut_with t work tokens (λ cs. cut_blocks (block_by mode (vocabulary_of b) room) start (blocks_of cut_class cs)) sentence
unfolding tokenize_of cut_of cut_for_search_of block_by
by_blocks Default b t of_book work room tokens sentence = rw of_book
by_blocks Search b t of_book work room tokens sentence = rw of_book

-- with the tests of a book, as they are made
module _ (mode : TokenizeMode) (b : Book) (t : Tested) (of_book : t ≡ tested_book b) (work room : ℕ) (tokens sentence : List ℕ) (o : Outcome)
    (tests : answer o (written 0 tokens) ≡ cut_with t work tokens (λ cs. answer (Ok tt)) sentence) where
  cut_begun : is_done o ≡ true → Begun t work tokens sentence
  cut_begun done = begun t work tokens sentence o tests done

  pub not_begun : is_done o ≡ true → begins (tested_book b) work tokens sentence ≡ false → ⊥
  not_begun done none_begun = has_begun t work tokens sentence o tests done (rw of_book none_begun)

  pub refused_cut : is_done o ≡ false → answer o (written 0 tokens) ≡ tokenize_of mode b work room tokens sentence
  refused_cut other =
      refused t work tokens sentence o tests other (λ cs. cut_blocks (block_by mode (vocabulary_of b) room) start (blocks_of cut_class cs))
      ∙ sym (by_blocks mode b t of_book work room tokens sentence)

  pub whole_cut : is_done o ≡ true → (a : CutAnswer)
      → a ≡ cut_blocks (block_by mode (vocabulary_of b) room) start (blocks_of cut_class (text_from sentence 0)) (written 0 tokens)
      → a ≡ tokenize_of mode b work room tokens sentence
  whole_cut done a same =
      let began = cut_begun done in
      same
      ∙ ap (λ (cs : List ℕ). cut_blocks (block_by mode (vocabulary_of b) room) start (blocks_of cut_class cs) (written 0 tokens))
      (text_start sentence began.chars began.read)
      ∙ sym (began.cut (λ cs. cut_blocks (block_by mode (vocabulary_of b) room) start (blocks_of cut_class cs)))
      ∙ sym (by_blocks mode b t of_book work room tokens sentence)

-- ---- the areas as they are measured before the call: the places used are all there are

module _ (work found : ℕ) (tokens sentence : List ℕ) (measured : found ≡ work) where
  pub measured_cut : (mode : TokenizeMode) (b : Book) (room found_room : ℕ) → found_room ≡ room → (a : CutAnswer)
      → a ≡ tokenize_of mode b found found_room tokens sentence → a ≡ tokenize_of mode b work room tokens sentence
  measured_cut mode b room found_room same_room a same = rw (← measured, ← same_room) same

  pub measured_begins : (t : Tested) → begins t work tokens sentence ≡ false → begins t found tokens sentence ≡ false
  measured_begins t none = rw measured none

-- ---- the work area

module _ (chars offsets starts : List ℕ) (scores : List Float) (ends records : List ℕ) where
  pub work_fits : (n work : ℕ) → n < work → work ≤ work_of chars offsets starts scores ends records → WorkFits n chars offsets starts scores ends records
  work_fits n work h within =
      let a = shorter (length chars) (length offsets) in
      let b = shorter a (length starts) in
      let c = shorter b (length scores) in
      let d = shorter c (length ends) in
      let e1 = shorter_first_lem d (length records) in
      let e2 = shorter_second d (length records) in
      let d1 = shorter_first_lem c (length ends) in
      let d2 = shorter_second c (length ends) in
      let c1 = shorter_first_lem b (length scores) in
      let c2 = shorter_second b (length scores) in
      let b1 = shorter_first_lem a (length starts) in
      let b2 = shorter_second a (length starts) in
      let a1 = shorter_first_lem (length chars) (length offsets) in
      let a2 = shorter_second (length chars) (length offsets) in
      record {
        in_chars = omega arith;
        in_offsets = omega arith;
        in_starts = omega arith;
        in_scores = omega arith;
        in_ends = omega arith;
        in_records =
            omega arith;
      }

-- the characters of a sentence that begins to be cut
pub begun_chars : (t : Tested) (work : ℕ) (tokens sentence : List ℕ) → Begun t work tokens sentence → length (text_from sentence 0) < work
begun_chars t work tokens sentence began = rw (text_start sentence began.chars began.read) began.room

pub begun_well_formed : (t : Tested) (work : ℕ) (tokens sentence : List ℕ) → Begun t work tokens sentence → IsSome (chars_of sentence)
begun_well_formed t work tokens sentence began = rw began.read tt
