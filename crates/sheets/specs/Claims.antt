-- What is claimed of a filled sheet: document 02, note 7, "A load of the output leaves and returns what the old rule did for the sheet", and what makes it
-- safe to fill a sheet that needs it not. Proofs: `proofs/Claims.antt` and, of those on sheets alone, `proofs/Texts.antt`.
-- Assumes nothing.
use Rattle.std.specs.Prelude.{ℕ, ◌+◌, ◌*◌, ◌≤◌, List, [], ◌∷◌, map, ◌≡◌, length}
use Rattle.std.proofs.Math.Option.{some}
use Rattle.utf8.specs.Text.{chars_of}
use Rattle.lines.specs.Lines.{lines_of, fields_of}
use Rattle.book.specs.Returns.{Book}
use Rattle.book.specs.Enter.{load_of}
use Rattle.sheets.specs.Filled.{filled_line, filled, longest_sheet}
use Rattle.sheets.specs.OldRule.{old_load_of}

-- the number, the line, the head and every cell, of every book, damaged ones with it, and whether the load is refused or not
abbrev pub OldRuleKept : Type 0
OldRuleKept = (b : Book) (sheet : List ℕ) → length sheet ≤ longest_sheet → load_of b (filled sheet) ≡ old_load_of b sheet

-- the output's lines are the sheet's, each of them filled
abbrev pub FilledLineByLine : Type 0
FilledLineByLine = (sheet : List ℕ) → lines_of (filled sheet) ≡ map filled_line (lines_of sheet)

-- filling twice is filling once
abbrev pub FilledTwice : Type 0
FilledTwice = (sheet : List ℕ) → filled (filled sheet) ≡ filled sheet

-- a line whose word, if it has one, has a second field; a malformed line has no word
abbrev pub HasSecondField : List ℕ → Type 0
HasSecondField line = (cs word : List ℕ) → chars_of line ≡ some cs → fields_of cs ≡ word ∷ [] → ⊥

abbrev pub EachHasSecondField : List (List ℕ) → Type 0
EachHasSecondField [] = Unit {0}
EachHasSecondField (line ∷ lines) = HasSecondField line × EachHasSecondField lines

-- a sheet in which every word has a second field goes out unchanged
abbrev pub SecondFieldsKept : Type 0
SecondFieldsKept = (sheet : List ℕ) → EachHasSecondField (lines_of sheet) → filled sheet ≡ sheet

-- the room that it takes
abbrev pub FilledShort : Type 0
FilledShort = (sheet : List ℕ) → length (filled sheet) ≤ 2 * length sheet + 1
