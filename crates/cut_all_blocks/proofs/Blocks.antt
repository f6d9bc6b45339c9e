-- The blocks of a sentence, one after the other: the loop of `cut_all_blocks`. It is `splitter`'s, with `cut_all_block` for a block and the class of `cut_all`.
-- A block is cut by one of two calls, as it is of the class or not; each comes to `cut_all_block`. The slices stay as long as they were.
-- Assumes nothing.
use Rattle.std.specs.Prelude.{Result}
use Prim.Native.Nat.{ℕ, ◌≤◌}
use mathlib.Core.Bool.{Bool, true, false}
use mathlib.Core.List.{List}
use mathlib.Core.Option.{IsSome}
use mathlib.Core.Path.{◌≡◌, refl}
use lib.ListN.{length}
use Rattle.trie.specs.Trie.{trie_of}
use Rattle.utf8.specs.Text.{chars_of}
use Rattle.classes.specs.Blocks.{cut_all_class}
use Rattle.book.specs.Returns.{Book, longest_text}
use Rattle.book.specs.Prefixes.{words_from}
use Rattle.cuts.specs.declared.CutError.{CutError}
use Rattle.cuts.specs.Slices.{SeenAs, block_of, Placed}
use Rattle.cuts.specs.Edges.{vocabulary_of, walks_of}
use Rattle.cuts.specs.Tokens.{runs_of, Base, written}
use Rattle.cuts.specs.Cuts.{cut_answer, put_spans, put_walks, cut_all_block}
use Rattle.runs.specs.declared.CharacterClass.TheVariants.{CutAll}
use Rattle.runs.specs.Runs.{class_of}
use Rattle.splitter.proofs.Cutting as Loop

-- ---- the slices

pub record SameLong (chars chars₀ offsets offsets₀ tokens tokens₀ : List ℕ) : Type 0 where
  pub long_chars : length chars ≡ length chars₀
  pub long_offsets : length offsets ≡ length offsets₀
  pub long_tokens : length tokens ≡ length tokens₀

-- ---- the loop

-- where it stands, in each book that has these tables
abbrev pub Cutting : List ℕ → List ℕ → ℕ → List ℕ → List ℕ → List ℕ → ℕ → ℕ → ℕ → ℕ → Type 0
Cutting roots slots used =
    Loop.Cutting CutAll cut_all_class (λ b. SeenAs b (trie_of roots slots) used) (λ b. cut_all_block (vocabulary_of b))

-- before the first block, where the splitter starts
pub begins : (roots slots : List ℕ) (used : ℕ) (s tokens : List ℕ) (at : ℕ)
    → length s ≤ longest_text
    → IsSome (chars_of s)
    → at ≡ 0
    → Cutting roots slots used s tokens tokens at 0 0 0
unfolding class_of
begins roots slots used s tokens at short some_chars starts = Loop.begins s tokens at refl short some_chars starts

-- ---- a block is cut, after so many tokens

pub record BlockCut (roots slots : List ℕ) (used : ℕ)
    (base : ℕ) (matched : Bool) (cs offsets tokens : List ℕ) (count : ℕ) (cut : Result ℕ CutError) (after : List ℕ) : Type 0 where
  pub kept : length after ≡ length tokens
  pub same : (b : Book) (place : Base)
      → SeenAs b (trie_of roots slots) used
      → Placed place base cs offsets
      → cut_answer cut after ≡ cut_all_block (vocabulary_of b) place (block_of matched cs) (written count tokens)

module _ {roots slots : List ℕ} {used : ℕ}
    {base : ℕ} {matched : Bool} {cs offsets tokens : List ℕ} {count : ℕ} {cut : Result ℕ CutError} {after : List ℕ} where
  -- what the call answered is what the code goes on with
  pub as_answered : {answered : Result ℕ CutError} {left : List ℕ}
      → after ≡ left
      → cut ≡ answered
      → BlockCut roots slots used base matched cs offsets tokens count answered left
      → BlockCut roots slots used base matched cs offsets tokens count cut after
  as_answered same_area same_cut block = rw (same_area, same_cut) block

  -- `cut_all_tokens` has cut it, if it is of the class
  pub matched_cut : matched ≡ true
      → length after ≡ length tokens
      → ((b : Book) (place : Base) → SeenAs b (trie_of roots slots) used → Placed place base cs offsets
      → cut_answer cut after ≡ put_walks place cs 0 (written count tokens) (walks_of (words_from b) 0 cs))
      → BlockCut roots slots used base matched cs offsets tokens count cut after
  unfolding cut_all_block
  matched_cut is kept walked = record { kept = kept; same = λ b place seen stands. rw is (walked b place seen stands) }

  -- and `cut_all_unmatched`, if it is not
  pub unmatched_cut : matched ≡ false
      → length after ≡ length tokens
      → ((place : Base) → Placed place base cs offsets → cut_answer cut after ≡ put_spans place cs (written count tokens) (runs_of cs))
      → BlockCut roots slots used base matched cs offsets tokens count cut after
  unfolding cut_all_block
  unmatched_cut is kept spans = record { kept = kept; same = λ b place seen stands. rw is (spans place stands) }
