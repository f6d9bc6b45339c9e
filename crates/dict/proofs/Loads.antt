-- A load by the tests before its lines. Assumes nothing.
use Rattle.std.specs.Prelude.{Result, Err}
use mathlib.Core.Path.{◌≡◌, sym, ◌∙◌}
use mathlib.Core.Bool.{Bool, true, false}
use mathlib.Core.List.{List}
use Prim.Native.Nat.{ℕ, ◌<◌, ◌≤◌}
use borrow.Author.Tests.{le-leb, lt-leb}
use lib.Ieee.{Float}
use lib.ListN.{length}
use Rattle.book.specs.declared.Head.{Head}
use Rattle.book.specs.declared.LoadError.{LoadError}
use Rattle.book.specs.declared.Refusal.{Refusal}
use Rattle.book.specs.declared.Refusal.TheVariants.{BadAreas, TooLong}
use Rattle.book.specs.Returns.{Book, sized, longest_text}
use Rattle.book.specs.Areas.{areas_allowed, book_in}
use Rattle.book.specs.Enter.{LoadAnswer, loaded, load_of}
use Rattle.book.specs.Numbers.{loaded_returns, load_returns}
use Rattle.book.proofs.Areas.{sized_lent}
use Rattle.book.proofs.Numbers.{loaded_in_numbers}
use Rattle.load_lines.specs.Answers.{lines_loaded}

-- what refuses a text as a whole
abbrev pub whole : Refusal → Result ℕ LoadError
whole r = Err (record { refusal = r; line = 0 })

module _ (b : Book) (text : List ℕ) {r : Bool} (areas : r ≡ sized b) where
  pub areas_refused : r ≡ false → loaded (whole BadAreas) b ≡ load_of b text
  unfolding load_of
  areas_refused n = rw (sym areas, n)

  module _ (n : r ≡ true) where
    pub too_long : longest_text < length text → loaded (whole TooLong) b ≡ load_of b text
    unfolding load_of
    too_long l = rw (sym areas, n, lt-leb (length text) longest_text l)

    pub all_loaded : length text ≤ longest_text → {a : LoadAnswer} → a ≡ lines_loaded b 0 text 0 → a ≡ load_of b text
    unfolding load_of lines_loaded
    all_loaded l e = e ∙ rw (sym areas, n, le-leb (length text) longest_text l)

-- ---- a text too long, of the book as it is lent, and in numbers

module _ (head : Head) (roots slots records text : List ℕ) (l : List Float) {r : Bool}
    (areas : r ≡ areas_allowed (length roots) (length slots) (length records) (length l)) (n : r ≡ true) where
  pub long_refused : longest_text < length text → loaded (whole TooLong) (book_in head roots slots records l) ≡ load_of (book_in head roots slots records l) text
  long_refused long = too_long (book_in head roots slots records l) text (areas ∙ sized_lent head roots slots records l) n long

  pub long_returned : longest_text < length text → loaded_returns (whole TooLong) ≡ load_returns (book_in head roots slots records l) text
  long_returned long = (loaded_in_numbers (whole TooLong) (book_in head roots slots records l) (long_refused long)).1
