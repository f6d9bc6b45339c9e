-- Lists of loads and additions: document 01, "Two books side by side", and demand 3: "each call gets the book as the one before left it, and nobody
-- else writes there". A call's bytes and its number are any at all, so malformed, overlong, empty and refused calls are calls like others.
-- Assumes nothing.
use Rattle.std.specs.Prelude.{ℕ, true, List, [], ◌∷◌, ◌≡◌}
use Rattle.book.specs.Returns.{Book, allowed, empty_book, Outcome}
use Rattle.book.specs.Enter.{add_of, load_of}
use Rattle.built.specs.Ledger.{Entry, ledger_after_add, ledger_after_load}

-- a load of a text, or an addition of a word with a frequency
pub data Call : Type 0 where
  Load : List ℕ → Call
  Add : List ℕ → ℕ → Call

-- what a call returned: its outcome, with "its line" of a load and "the frequency" of an addition
pub record Answer : Type 0 where
  pub outcome : Outcome
  pub number : ℕ

abbrev pub answer : Outcome → ℕ → Answer
answer outcome number = record { outcome = outcome; number = number }

-- ---- one call

unfoldable pub answer_of : Book → Call → Answer
answer_of b (Load text) = answer (load_of b text).outcome (load_of b text).line
answer_of b (Add text frequency) = answer (add_of b text frequency).outcome (add_of b text frequency).frequency

unfoldable pub book_after : Book → Call → Book
book_after b (Load text) = (load_of b text).book
book_after b (Add text frequency) = (add_of b text frequency).book

-- "The ledger is fed each call's text and frequency and what the call returned"
unfoldable pub ledger_after : List Entry → Call → Answer → List Entry
ledger_after ledger (Load text) a = ledger_after_load ledger text a.outcome a.number
ledger_after ledger (Add text frequency) a = ledger_after_add ledger text frequency a.outcome

-- ---- a list of calls

unfoldable pub book_after_all : Book → List Call → Book
book_after_all b [] = b
book_after_all b (call ∷ calls) = book_after_all (book_after b call) calls

unfoldable pub answers_of : Book → List Call → List Answer
answers_of b [] = []
answers_of b (call ∷ calls) = answer_of b call ∷ answers_of (book_after b call) calls

-- each call's answer beside it
unfoldable pub ledger_after_all : List Entry → List Call → List Answer → List Entry
ledger_after_all ledger [] answers = ledger
ledger_after_all ledger (call ∷ calls) [] = ledger
ledger_after_all ledger (call ∷ calls) (a ∷ answers) = ledger_after_all (ledger_after ledger call a) calls answers

-- ---- from an empty book

-- "each from an empty book of its own with tables of any size that document 01 allows"
abbrev pub allowed_sizes : ℕ → ℕ → ℕ → Type 0
allowed_sizes roots slots records = allowed roots roots slots slots slots records records ≡ true

abbrev pub book_from : ℕ → ℕ → ℕ → List Call → Book
book_from roots slots records calls = book_after_all (empty_book roots slots records) calls

abbrev pub answers_from : ℕ → ℕ → ℕ → List Call → List Answer
answers_from roots slots records calls = answers_of (empty_book roots slots records) calls

-- "for an empty book it has none"
abbrev pub ledger_from : ℕ → ℕ → ℕ → List Call → List Entry
ledger_from roots slots records calls = ledger_after_all [] calls (answers_from roots slots records calls)

-- a book and the ledger beside it, as a list of calls leaves the two
pub data BuiltByCalls : Book → List Entry → Type 0 where
  after : (roots slots records : ℕ) (calls : List Call) → allowed_sizes roots slots records
      → BuiltByCalls (book_from roots slots records calls) (ledger_from roots slots records calls)
