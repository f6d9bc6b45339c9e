-- What a block is cut with, the book that is lent and the places of the work area, and a block by the mode, in the terms of `cuts/specs/Cuts.antt`.
-- Assumes nothing.
use Rattle.std.specs.Prelude.{ℕ, ◌<◌, Bool, List, ◌≡◌, Float, length, get_or}
use Rattle.trie.specs.Trie.{CharTrie}
use Rattle.score.specs.Logarithm.{log_float}
use Rattle.book.specs.Returns.{Book}
use Rattle.cuts.specs.declared.TokenizeMode.{TokenizeMode}
use Rattle.cuts.specs.declared.TokenizeMode.TheVariants.{Default, Search}
use Rattle.cuts.specs.Slices.{SeenAs}
use Rattle.cuts.specs.Blocks.{Block}
use Rattle.cuts.specs.Edges.{Vocabulary}
use Rattle.cuts.specs.Tokens.{Base, Written}
use Rattle.cuts.specs.Cuts.{CutAnswer, cut_block, search_block}
use Rattle.block.specs.declared.Plan.{Plan}

-- what a cut is lent of a book: the trie and the records' logarithms, and with the plan how many of these are used and L of the total
pub record Planned (b : Book) (trie : CharTrie) (logarithms : List Float) (plan : Plan) : Type 0 where
  pub seen : SeenAs b trie plan.used
  pub same_logarithms : b.logarithms ≡ logarithms
  pub same_total : plan.log_total ≡ log_float b.head.total

-- the work area has places for n characters and one more
pub record WorkFits (n : ℕ) (chars offsets starts : List ℕ) (scores : List Float) (ends records : List ℕ) : Type 0 where
  pub in_chars : n < length chars
  pub in_offsets : n < length offsets
  pub in_starts : n < length starts
  pub in_scores : n < length scores
  pub in_ends : n < length ends
  pub in_records : n < length records

-- a block of `cut` or of `cut_for_search`
unfoldable pub block_by : TokenizeMode → Vocabulary → ℕ → Base → Block → Written → CutAnswer
block_by Default = cut_block
block_by Search = search_block

-- the characters of a block of n characters are all of the class, or all not
abbrev pub OneKind : (ℕ → Bool) → Bool → ℕ → List ℕ → Type 0
OneKind class matched n chars = (i : ℕ) → i < n → class (get_or chars i 0) ≡ matched
