-- A sheet with its zeros: document 02, note 7, "putting a space and 0 right after each word that has no second field; malformed lines go out as they
-- came, and a longer sheet gives no output".
-- Assumes nothing.
use Rattle.std.specs.Prelude.{ℕ, ◌+◌, true, false, cond, List, [], ◌∷◌, ◌++◌, eqb, leb, length, take, drop}
use Rattle.std.specs.Prelude.{Result, Ok, Err, Option as CodeOption, Some, None}
use Rattle.std.proofs.Math.Option.{Option, none, some}
use Rattle.std.proofs.lemmas.List.Edits.{sets}
use Rattle.classes.specs.WhiteSpace.{white_space}
use Rattle.utf8.specs.Encoding.{byte_length}
use Rattle.utf8.specs.Text.{chars_of}
use Rattle.lines.specs.Lines.{past, fields_of}
use Rattle.sheets.specs.declared.TooLong.{TooLong}

-- ---- a line

-- where a word ends that has no second field, in bytes: by where it starts and by the line's fields
abbrev pub bare_end : ℕ → List (List ℕ) → CodeOption ℕ
bare_end start [] = None
bare_end start (word ∷ []) = Some (start + byte_length word)
bare_end start (word ∷ second ∷ others) = None

-- "right after each word that has no second field"; the word starts after the white space before it; "malformed lines go out as they came"
abbrev pub zero_place_of_chars : Option (List ℕ) → CodeOption ℕ
zero_place_of_chars none = None
zero_place_of_chars (some cs) = bare_end (past white_space 0 (some cs)) (fields_of cs)

unfoldable pub zero_place : List ℕ → CodeOption ℕ
zero_place line = zero_place_of_chars (chars_of line)

-- "a space and 0"
abbrev pub zero_digit : ℕ
zero_digit = 0x30

abbrev pub space_and_zero : List ℕ
space_and_zero = 0x20 ∷ zero_digit ∷ []

abbrev pub with_zero : List ℕ → CodeOption ℕ → List ℕ
with_zero line None = line
with_zero line (Some end) = take end line ++ (space_and_zero ++ drop end line)

unfoldable pub filled_line : List ℕ → List ℕ
filled_line line = with_zero line (zero_place line)

-- ---- a sheet

-- the rest of a sheet, after the beginning of a line: each line filled, each LF where it was, and none at the end that was not there
unfoldable pub filled_from : List ℕ → List ℕ → List ℕ
filled_from line [] = filled_line line
filled_from line (b ∷ rest) =
    elim (eqb b 0x0A) [ true ↦ filled_line line ++ (b ∷ filled_from [] rest) | false ↦ filled_from (line ++ (b ∷ [])) rest ]

unfoldable pub filled : List ℕ → List ℕ
filled sheet = filled_from [] sheet

-- ---- what `fill` answers, and leaves in the area that it writes to

-- "at most 65,536 bytes"
abbrev pub longest_sheet : ℕ
longest_sheet = 65536

pub record Filling : Type 0 where
  pub sheet : Result ℕ TooLong
  pub area : List ℕ

abbrev pub filling : Result ℕ TooLong → List ℕ → Filling
filling sheet area = record { sheet = sheet; area = area }

-- "a longer sheet gives no output"
unfoldable pub fill_of : List ℕ → List ℕ → Filling
fill_of sheet area = cond (leb (length sheet) longest_sheet) (filling (Ok (length (filled sheet))) (sets area 0 (filled sheet))) (filling (Err (record {})) area)
