-- Equal scores in books that are written out: three best routes of which one is taken, and a block of minus infinity, of which the claim would be wrong.
-- Words and sentences are characters in the rows and bytes in the calls, with what they read above them. Proofs: `proofs/Examples.antt`.
-- Assumes nothing.
use Rattle.std.specs.Prelude.{ℕ, true, List, [], ◌∷◌, ◌++◌, ◌≡◌, get_or}
use Rattle.std.specs.Float.{inf}
use Rattle.score.specs.Logarithm.{log_float}
use Rattle.book.specs.Returns.{Book}
use Rattle.built.specs.Ledger.{Entry}
use Rattle.built.specs.Calls.{Call, Add, book_from, ledger_from}
use Rattle.route.specs.Route.{route_of}
use Rattle.route.specs.Slices.{nowhere}
use Rattle.best_route.specs.Paths.{Word, edges_of, Follows}
use Rattle.best_route.specs.Ties.{SmallerWherePart, IsBest, FixedChoice}
use Rattle.built_cuts.specs.Claims.{BlockWords, FixedFrom}

-- 甲, 乙 and 丙, as bytes
abbrev pub jia : List ℕ
jia = 231 ∷ 148 ∷ 178 ∷ []

abbrev pub yi : List ℕ
yi = 228 ∷ 185 ∷ 153 ∷ []

abbrev pub bing : List ℕ
bing = 228 ∷ 184 ∷ 153 ∷ []

-- 甲乙丙, the block
abbrev pub block : List ℕ
block = 0x7532 ∷ 0x4E59 ∷ 0x4E19 ∷ []

-- books of 1 root entry, 16 slots and 8 records
abbrev pub book_of : List Call → Book
book_of calls = book_from 1 16 8 calls

abbrev pub ledger_of : List Call → List Entry
ledger_of calls = ledger_from 1 16 8 calls

abbrev pub word : ℕ → ℕ → Word
word end frequency = record { end = end; frequency = frequency }

-- a cut of the block in the book of these calls goes by these words, with this total
pub record HasRows (calls : List Call) (total : ℕ) (rows : List (List Word)) : Type 0 where
  pub words : BlockWords (book_of calls) (ledger_of calls) block
  pub same_rows : words.rows ≡ rows
  pub same_total : (book_of calls).head.total ≡ total

-- ---- a tie of three

-- 甲 3, 乙 4, 丙 3, 甲乙 1, 乙丙 1: together 12
abbrev pub tied : List Call
tied = Add jia 3 ∷ Add yi 4 ∷ Add bing 3 ∷ Add (jia ++ yi) 1 ∷ Add (yi ++ bing) 1 ∷ []

abbrev pub tied_rows : List (List Word)
tied_rows = (word 1 3 ∷ word 2 1 ∷ []) ∷ (word 2 4 ∷ word 3 1 ∷ []) ∷ (word 3 3 ∷ []) ∷ []

-- 甲 乙 丙, 甲 乙丙 and 甲乙 丙
abbrev pub three_words : List Word
three_words = word 1 3 ∷ word 2 4 ∷ word 3 3 ∷ []

abbrev pub shorter_first : List Word
shorter_first = word 1 3 ∷ word 3 1 ∷ []

abbrev pub longer_first : List Word
longer_first = word 2 1 ∷ word 3 3 ∷ []

-- all three are best, and 甲乙 丙 is the one taken
pub record ThreeTied : Type 0 where
  pub has_rows : HasRows tied 12 tied_rows
  pub three_words_lem : IsBest 12 tied_rows 0 three_words
  pub shorter_first_lem : IsBest 12 tied_rows 0 shorter_first
  pub longer_first_lem : IsBest 12 tied_rows 0 longer_first
  pub fixed : FixedFrom 12 block tied_rows 0
  pub taken : fixed.choice.taken ≡ longer_first

-- ---- a finite score is needed

-- 甲 0, 乙 4, 丙 4, 乙丙 1: together 9
abbrev pub behind_zero : List Call
behind_zero = Add jia 0 ∷ Add yi 4 ∷ Add bing 4 ∷ Add (yi ++ bing) 1 ∷ []

abbrev pub behind_zero_rows : List (List Word)
behind_zero_rows = (word 1 0 ∷ []) ∷ (word 2 4 ∷ word 3 1 ∷ []) ∷ (word 3 4 ∷ []) ∷ []

-- 甲 乙 丙, and 甲 乙丙
abbrev pub single : List Word
single = word 1 0 ∷ word 2 4 ∷ word 3 4 ∷ []

abbrev pub joined : List Word
joined = word 1 0 ∷ word 3 1 ∷ []

pub record FiniteNeeded : Type 0 where
  pub has_rows : HasRows behind_zero 9 behind_zero_rows
  pub minus_infinity_lem : (get_or (route_of (log_float 9) 0 (edges_of behind_zero_rows)) 0 nowhere).score ≡ inf true
  -- 甲 乙 丙 is taken, since 乙 丙 has a higher score than 乙丙; behind 甲 both are minus infinity, and 甲 乙丙 has the larger end where the two part
  pub follows : Follows (route_of (log_float 9) 0 (edges_of behind_zero_rows)) 0 single
  pub best : IsBest 9 behind_zero_rows 0 single
  pub other_best : IsBest 9 behind_zero_rows 0 joined
  pub larger : SmallerWherePart joined single
  -- so the choice is not fixed as the claim has it
  pub not_fixed : FixedChoice 9 behind_zero_rows 0 → ⊥
