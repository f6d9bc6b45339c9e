-- The ledger: document 01, "Two books side by side". It "is fed each call's text and frequency and what the call returned, nothing from the book":
-- no definition of this file takes a book. Below it stands what lookups and walks answer by the ledger alone.
-- Assumes nothing.
use Rattle.std.specs.Prelude.{ℕ, ◌+◌, ◌-◌, Bool, true, false, cond, ◌&&◌, List, [], ◌∷◌, ◌++◌, ◌≡◌, eqb, leb, length, take, Some, None, Ok, Err}
use Rattle.std.proofs.Math.Option.{Option, none, some}
use Rattle.utf8.specs.Text.{chars_of}
use Rattle.lines.specs.Lines.{lines_of, Meaning, malformed, blank, bad_frequency, entry, meaning_of}
use Rattle.score.specs.Logarithm.{log_float}
use Rattle.book.specs.declared.Refusal.TheVariants.{TooLong, Malformed}
use Rattle.book.specs.Returns.{number_of, longest_text, Found, Outcome}
use Rattle.book.specs.Prefixes.{Edge}

-- ---- words and frequencies

-- "It has words, each once, each with a frequency"; "for an empty book it has none": then it is the empty list
pub record Entry : Type 0 where
  pub word : List ℕ
  pub frequency : ℕ

abbrev pub entry_of : List ℕ → ℕ → Entry
entry_of word frequency = record { word = word; frequency = frequency }

-- whether two words have the same characters
unfoldable pub same_word : List ℕ → List ℕ → Bool
same_word [] [] = true
same_word [] (d ∷ ds) = false
same_word (c ∷ cs) [] = false
same_word (c ∷ cs) (d ∷ ds) = eqb c d && same_word cs ds

-- the frequency of a word, if the ledger has the word
unfoldable pub frequency_in : List Entry → List ℕ → Option ℕ
frequency_in [] word = none
frequency_in (e ∷ es) word = cond (same_word e.word word) (some e.frequency) (frequency_in es word)

-- "enters the word with its frequency; a word already there gets the new one"
unfoldable pub enter_in : List Entry → List ℕ → ℕ → List Entry
enter_in [] word frequency = entry_of word frequency ∷ []
enter_in (e ∷ es) word frequency = cond (same_word e.word word) (entry_of word frequency ∷ es) (e ∷ enter_in es word frequency)

-- "the sum over the ledger"
unfoldable pub sum_of : List Entry → ℕ
sum_of [] = 0
sum_of (e ∷ es) = e.frequency + sum_of es

-- "each once": no word is among the words after it
abbrev pub EachOnce : List Entry → Type 0
EachOnce [] = Unit {0}
EachOnce (e ∷ es) = (frequency_in es e.word ≡ none) × EachOnce es

-- ---- what a call enters

-- "its word not empty"; a malformed text has no word
abbrev pub enter_chars : List Entry → Option (List ℕ) → ℕ → List Entry
enter_chars ledger none frequency = ledger
enter_chars ledger (some []) frequency = ledger
enter_chars ledger (some (c ∷ cs)) frequency = enter_in ledger (c ∷ cs) frequency

-- "An addition that returned the number 0, its word not empty, enters the word with its frequency"; "A refused addition enters nothing."
unfoldable pub ledger_after_add : List Entry → List ℕ → ℕ → Outcome → List Entry
ledger_after_add ledger text frequency outcome = cond (eqb (number_of outcome) 0) (enter_chars ledger (chars_of text) frequency) ledger

-- "by the rules of a line, blank ones passed over"
abbrev pub enter_line : List Entry → Meaning → List Entry
enter_line ledger malformed = ledger
enter_line ledger blank = ledger
enter_line ledger bad_frequency = ledger
enter_line ledger (entry word frequency) = enter_in ledger word frequency

-- "line by line"
unfoldable pub enter_lines : List Entry → List (List ℕ) → List Entry
enter_lines ledger [] = ledger
enter_lines ledger (l ∷ ls) = enter_lines (enter_line ledger (meaning_of l)) ls

-- how many lines stand before a line, counted from 1; "none where that is 0"
abbrev pub lines_before : ℕ → ℕ
lines_before line = line - 1

-- "with 0 for all its lines, with any other number for those before the line it returned, so for none where that is 0"
unfoldable pub ledger_after_load : List Entry → List ℕ → Outcome → ℕ → List Entry
ledger_after_load ledger text outcome line =
    cond (eqb (number_of outcome) 0) (enter_lines ledger (lines_of text)) (enter_lines ledger (take (lines_before line) (lines_of text)))

-- ---- what lookups and walks answer by the ledger

abbrev pub found_in_ledger : Option ℕ → Found
found_in_ledger none = Ok None
found_in_ledger (some frequency) = Ok (Some frequency)

abbrev pub ledger_lookup_chars : List Entry → Option (List ℕ) → Found
ledger_lookup_chars ledger none = Err Malformed
ledger_lookup_chars ledger (some cs) = found_in_ledger (frequency_in ledger cs)

-- a lookup: 2 and 3 by the text alone, and then the frequency of the ledger or "absent"
unfoldable pub ledger_lookup : List Entry → List ℕ → Found
ledger_lookup ledger text = cond (leb (length text) longest_text) (ledger_lookup_chars ledger (chars_of text)) (Err TooLong)

-- a word that ends here, with L of its frequency, before the words that end later
abbrev pub edge_before : ℕ → Option ℕ → List Edge → List Edge
edge_before end none edges = edges
edge_before end (some frequency) edges = record { end = end; logarithm = log_float frequency } ∷ edges

-- the words that begin with the characters read so far, and end after one or more of those that follow
unfoldable pub words_after : List Entry → List ℕ → ℕ → List ℕ → List Edge
words_after ledger read at [] = []
words_after ledger read at (c ∷ cs) =
    edge_before (at + 1) (frequency_in ledger (read ++ (c ∷ []))) (words_after ledger (read ++ (c ∷ [])) (at + 1) cs)

-- "each position's held words, ends rising": the prefixes of the characters from a position on that the ledger has
unfoldable pub ledger_words : List Entry → ℕ → List ℕ → List Edge
ledger_words ledger at cs = words_after ledger [] at cs
