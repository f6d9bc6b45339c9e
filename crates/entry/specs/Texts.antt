-- A word enters, as the functions here get it: as a text. Document 01, "A line enters".
-- Assumes nothing.
use Rattle.std.specs.Prelude.{ℕ, List, Ok, Err}
use Rattle.std.proofs.Math.Option.{Option, none, some}
use Rattle.lines.specs.Lines.{Meaning, malformed, blank, bad_frequency, entry, meaning_of}
use Rattle.book.specs.declared.Refusal.TheVariants.{Malformed, BadFrequency}
use Rattle.book.specs.Returns.{Book, Outcome}
use Rattle.book.specs.Enter.{enter, written, outcome_of, Decision}

-- what entering a word answers, and the book afterwards
pub record EnterAnswer : Type 0 where
  pub outcome : Outcome
  pub book : Book

abbrev pub enter_answer : Outcome → Book → EnterAnswer
enter_answer o b = record { outcome = o; book = b }

-- "A line enters": its word, with the tests "8, 5, 6, 7"; a refused word changes nothing
abbrev pub enter_by : Book → List ℕ → ℕ → Decision → EnterAnswer
enter_by b word frequency d = enter_answer (outcome_of d) (written b word frequency d)

unfoldable pub enter_text : Book → Option (List ℕ) → ℕ → EnterAnswer
enter_text b none frequency = enter_answer (Err Malformed) b
enter_text b (some word) frequency = enter_by b word frequency (enter b word frequency)

-- a line enters: "3, 4", a blank one passed over, then its word
abbrev pub enter_meaning : Book → Meaning → EnterAnswer
enter_meaning b malformed = enter_answer (Err Malformed) b
enter_meaning b blank = enter_answer (Ok tt) b
enter_meaning b bad_frequency = enter_answer (Err BadFrequency) b
enter_meaning b (entry word frequency) = enter_by b word frequency (enter b word frequency)

unfoldable pub enter_line : Book → List ℕ → EnterAnswer
enter_line b line = enter_meaning b (meaning_of line)
