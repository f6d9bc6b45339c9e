-- A load by the rule that note 7 of document 02 replaced; kept for the theorem `OldRuleKept` (`Claims.antt`) alone, and cited by no contract.
-- It is `load_of` (`book/specs/Enter.antt`) word for word, but that a word without a second field has the frequency 0.
-- Assumes nothing.
use Rattle.std.specs.Prelude.{ℕ, ◌+◌, cond, List, [], ◌∷◌, leb, length, Ok, Err}
use Rattle.std.proofs.Math.Option.{Option, none, some}
use Rattle.utf8.specs.Text.{chars_of}
use Rattle.lines.specs.Lines.{lines_of, fields_of, frequency_of, Meaning, malformed, blank, bad_frequency, entry, with_frequency}
use Rattle.book.specs.declared.Refusal.TheVariants.{BadAreas, TooLong, Malformed, BadFrequency}
use Rattle.book.specs.declared.Entering.TheVariants.{Replace, Insert}
use Rattle.book.specs.Returns.{Book, sized, longest_text}
use Rattle.book.specs.Enter.{enter, replaced, inserted, LoadAnswer, load_answer}

-- document 01 before note 7: "Field 1 is the word, field 2 its frequency: an optional + and one or more digits; absent means 0."
abbrev pub old_meaning_of_fields : List (List ℕ) → Meaning
old_meaning_of_fields [] = blank
old_meaning_of_fields (w ∷ []) = entry w 0
old_meaning_of_fields (w ∷ f ∷ fs) = with_frequency w (frequency_of f)

abbrev pub old_meaning_of_chars : Option (List ℕ) → Meaning
old_meaning_of_chars none = malformed
old_meaning_of_chars (some cs) = old_meaning_of_fields (fields_of cs)

unfoldable pub old_meaning_of : List ℕ → Meaning
old_meaning_of line = old_meaning_of_chars (chars_of line)

unfoldable pub old_load_lines : Book → ℕ → List (List ℕ) → LoadAnswer
old_load_lines b n [] = load_answer (Ok tt) n b
old_load_lines b n (l ∷ ls) =
    elim (old_meaning_of l) [
      | malformed ↦ load_answer (Err Malformed) (n + 1) b
      | blank ↦ old_load_lines b (n + 1) ls
      | bad_frequency ↦ load_answer (Err BadFrequency) (n + 1) b
      | entry word frequency ↦ elim (enter b word frequency) [
        | Err r ↦ load_answer (Err r) (n + 1) b
        | Ok (Replace r total) ↦ old_load_lines (replaced b r frequency total) (n + 1) ls
        | Ok (Insert slots nodes total) ↦ old_load_lines (inserted b word frequency slots nodes total) (n + 1) ls
      ]
    ]

unfoldable pub old_load_of : Book → List ℕ → LoadAnswer
old_load_of b text =
    cond (sized b) (cond (leb (length text) longest_text) (old_load_lines b 0 (lines_of text)) (load_answer (Err TooLong) 0 b)) (load_answer (Err BadAreas) 0 b)
