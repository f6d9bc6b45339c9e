-- A sentence that is cut: what `cut_all` learns from the outcome of the tests before the cut. If they are not done it is what `cut_all` answers. If they are,
-- the book and the slices are as `cut_all_blocks` requires them, and the blocks of the sentence's characters are what `cut_all` answers.
-- Assumes nothing.
use Rattle.std.specs.Prelude.{Result, Ok}
use Prim.Native.Nat.{ℕ, ◌-◌, ◌/◌, ◌≤◌, ◌<◌}
use mathlib.Core.Bool.{true, false}
use mathlib.Core.List.{List}
use mathlib.Core.Option.{IsSome}
use mathlib.Core.Path.{◌≡◌, refl, sym, ap, ◌∙◌}
use native.Mathlib.Omega.{arith}
use lib.Ieee.{Float}
use lib.ListN.{length}
use Rattle.trie.specs.Trie.{SlotCount, SlotTable, log2, trie_of}
use Rattle.utf8.specs.Text.{chars_of}
use Rattle.classes.specs.Blocks.{cut_all_class}
use Rattle.book.specs.declared.Head.{Head}
use Rattle.book.specs.Returns.{Book, is_done, longest_text, Outcome}
use Rattle.book.specs.Areas.{book_of}
use Rattle.book.proofs.Areas.{slots_allowed, slot_table}
use Rattle.cuts.specs.declared.CutError.{CutError}
use Rattle.cuts.specs.Blocks.{blocks_of}
use Rattle.cuts.specs.Slices.{SeenAs, shorter}
use Rattle.cuts.specs.Edges.{vocabulary_of}
use Rattle.cuts.specs.Tokens.{Written, written}
use Rattle.cuts.specs.Cuts.{CutAnswer, answer, cut_answer, cut_all_block, cut_blocks, start, Tested, tested_book, cut_with, cut_all_of, begins}
use Rattle.sentence.specs.Sizes.{tested_sizes}
use Rattle.sentence.proofs.Beginning.{Begun, refused, begun, has_begun, shorter_first_lem, shorter_second}
use Rattle.sentence.proofs.Lent.{tested_lent}
use Rattle.runs.specs.Runs.{text_from}
use Rattle.splitter.proofs.Sentences.{text_start}
use Rattle.cut_all.specs.Areas.{work_of}

-- ---- the outcome of the tests

-- the tests of a book by the lengths of its slices
abbrev pub by_sizes : Head → List ℕ → List ℕ → List ℕ → List Float → Tested
by_sizes head roots slots records logarithms = tested_sizes head (length roots) (length slots) (length records) (length logarithms)

-- the tests of a sentence before its cut have this outcome
pub record Tests (head : Head) (roots slots records : List ℕ) (logarithms : List Float)
    (sentence chars offsets tokens : List ℕ) (outcome : Outcome) : Type 0 where
  pub same : answer outcome (written 0 tokens)
      ≡ cut_with (by_sizes head roots slots records logarithms) (work_of chars offsets) tokens (λ cs. answer (Ok tt)) sentence

-- `begin` makes them, with a work area as long as the shorter of its slices
pub tested : (head : Head) (roots slots records : List ℕ) (logarithms : List Float)
    (sentence chars offsets tokens : List ℕ) (work : ℕ) (outcome : Outcome)
    → work ≡ shorter (length chars) (length offsets)
    → answer outcome (written 0 tokens)
    ≡ cut_with (by_sizes head roots slots records logarithms) work tokens (λ cs. answer (Ok tt)) sentence
    → Tests head roots slots records logarithms sentence chars offsets tokens outcome
tested head roots slots records logarithms sentence chars offsets tokens work outcome shortest tests =
    record {
      same = tests ∙ ap (λ (k : ℕ). cut_with (by_sizes head roots slots records logarithms) k tokens (λ cs. answer (Ok tt)) sentence) shortest;
    }

module _ {head : Head} {roots slots records : List ℕ} {logarithms : List Float}
    {sentence chars offsets tokens : List ℕ} {outcome : Outcome}
    (tests : Tests head roots slots records logarithms sentence chars offsets tokens outcome) where
  -- the book that is lent
  abbrev book : Book
  book = book_of head (trie_of roots slots) records logarithms

  abbrev tested_by : Tested
  tested_by = by_sizes head roots slots records logarithms

  -- how the characters of a sentence are cut
  abbrev cutting : List ℕ → Written → CutAnswer
  cutting cs = cut_blocks (cut_all_block (vocabulary_of book)) start (blocks_of cut_all_class cs)

  -- the tests are the book's
  of_book : cut_with tested_by (work_of chars offsets) tokens cutting sentence ≡ cut_all_of book (work_of chars offsets) tokens sentence
  unfolding cut_all_of
  of_book = ap (λ (t : Tested). cut_with t (work_of chars offsets) tokens cutting sentence) (tested_lent head roots slots records logarithms)

  -- ---- they refuse it

  pub is_refused : is_done outcome ≡ false → answer outcome (written 0 tokens) ≡ cut_all_of book (work_of chars offsets) tokens sentence
  is_refused other = refused tested_by (work_of chars offsets) tokens sentence outcome tests.same other cutting ∙ of_book

  -- ---- they pass it

  module _ (done : is_done outcome ≡ true) where
    found : Begun tested_by (work_of chars offsets) tokens sentence
    found = begun tested_by (work_of chars offsets) tokens sentence outcome tests.same done

    pub slot_count_lem : SlotCount (length slots / 2)
    slot_count_lem = slots_allowed _ _ _ _ found.sizes

    pub table : (shift : ℕ) → shift ≡ 64 - log2 (length slots / 2) → SlotTable (length slots) shift
    table = slot_table _ _ _ _ found.sizes

    pub short : length sentence ≤ longest_text
    short = found.short

    pub some_chars : IsSome (chars_of sentence)
    some_chars = rw found.read tt

    -- the sentence's characters
    text : text_from sentence 0 ≡ found.chars
    text = text_start sentence found.chars found.read

    pub room_chars : length (text_from sentence 0) < length chars
    room_chars = rw text (omega (arith, found.room, shorter_first_lem (length chars) (length offsets)))

    pub room_offsets : length (text_from sentence 0) < length offsets
    room_offsets = rw text (omega (arith, found.room, shorter_second (length chars) (length offsets)))

    -- what `cut_all_blocks` answers, in whatever book has these tables, is what `cut_all` answers
    pub is_cut : (r : Result ℕ CutError) (after : List ℕ)
        → ((b : Book) → SeenAs b (trie_of roots slots) head.records
        → cut_answer r after ≡ cut_blocks (cut_all_block (vocabulary_of b)) start (blocks_of cut_all_class (text_from sentence 0)) (written 0 tokens))
        → cut_answer r after ≡ cut_all_of book (work_of chars offsets) tokens sentence
    is_cut r after blocks =
        blocks book (record { same_trie = refl; records = refl })
        ∙ ap (λ (cs : List ℕ). cutting cs (written 0 tokens)) text ∙ sym (found.cut cutting) ∙ of_book

    -- and it is not so that cutting does not begin
    pub has_begun_here : begins (tested_book book) (work_of chars offsets) tokens sentence ≡ false → ⊥
    has_begun_here none =
        has_begun tested_by (work_of chars offsets) tokens sentence outcome tests.same done
        (ap (λ (t : Tested). begins t (work_of chars offsets) tokens sentence) (tested_lent head roots slots records logarithms) ∙ none)
