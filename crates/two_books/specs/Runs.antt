-- What calls did: a list of loads and additions that ran on a book, and a cut that ran on the book they left. A call is known by what it got, what it
-- returned and what it left, and of these its contract holds: the equations below are those of the `ensures` of the public calls, with the book as it was
-- lent and as it was left in the places of `book_in`.
-- Assumes nothing.
use Rattle.std.specs.Prelude.{ℕ, List, [], ◌∷◌, ◌≡◌}
use Rattle.book.specs.Returns.{Book, empty_book}
use Rattle.book.specs.Enter.{load_answer, add_answer, load_of, add_of}
use Rattle.built.specs.Ledger.{Entry}
use Rattle.built.specs.Calls.{Call, Load, Add, Answer, allowed_sizes, ledger_after_all}
use Rattle.cuts.specs.declared.TokenizeMode.{TokenizeMode}
use Rattle.cuts.specs.Cuts.{CutAnswer, cut_of, cut_all_of, cut_for_search_of, tokenize_of}

-- ---- loads and additions

-- a call was lent a book, returned an answer and left a book: the contracts of `dict::load_dict` and of `addition::add_word`
abbrev pub Went : Book → Call → Answer → Book → Type 0
Went lent (Load text) a left = load_answer a.outcome a.number left ≡ load_of lent text
Went lent (Add word frequency) a left = add_answer a.outcome a.number left ≡ add_of lent word frequency

-- "each call gets the book as the one before left it, and nobody else writes there": from a first book to a last one
pub data Ran : Book → List Call → List Answer → Book → Type 0 where
  ended : {b : Book} → Ran b [] [] b
  went : {lent last : Book} {call : Call} {a : Answer} {calls : List Call} {answers : List Answer} (left : Book)
      → Went lent call a left
      → Ran left calls answers last
      → Ran lent (call ∷ calls) (a ∷ answers) last

-- a "list of loads and additions, refused ones included", that ran "from an empty book of its own with tables of any size that document 01 allows": its
-- texts are any bytes, its frequencies any numbers
pub record Run : Type 0 where
  pub roots : ℕ
  pub slots : ℕ
  pub records : ℕ
  pub allowed : allowed_sizes roots slots records
  pub calls : List Call
  pub answers : List Answer
  pub book : Book
  pub ran : Ran (empty_book roots slots records) calls answers book

-- 01: "The ledger is fed each call's text and frequency and what the call returned, nothing from the book."
abbrev pub ledger_of : Run → List Entry
ledger_of r = ledger_after_all [] r.calls r.answers

-- ---- cuts

-- "each of the three cuts", and the choice by mode
pub data Cutter : Type 0 where
  Cut : Cutter
  CutAll : Cutter
  CutForSearch : Cutter
  Tokenize : TokenizeMode → Cutter

-- what a cut is lent beside the book and the sentence: a work area and an edge area, of which it takes the lengths alone, and the token area's numbers
pub record Areas : Type 0 where
  pub work : ℕ
  pub edges : ℕ
  pub tokens : List ℕ

-- a cut of a sentence was lent a book and areas, and answered: its number, its token count and the token area that it left. The contracts of
-- `cut`, `cut_all`, `cut_for_search` and `tokenize`.
abbrev pub Answered : Cutter → Book → Areas → List ℕ → CutAnswer → Type 0
Answered Cut b lent sentence a = a ≡ cut_of b lent.work lent.edges lent.tokens sentence
Answered CutAll b lent sentence a = a ≡ cut_all_of b lent.work lent.tokens sentence
Answered CutForSearch b lent sentence a = a ≡ cut_for_search_of b lent.work lent.edges lent.tokens sentence
Answered (Tokenize mode) b lent sentence a = a ≡ tokenize_of mode b lent.work lent.edges lent.tokens sentence
