-- The proofs of `Examples.antt`: all by computation, under one list of the definitions that are computed. Assumes nothing.
use mathlib.Core.Path.{refl}
use Rattle.classes.specs.Ranges.{in_ranges}
use Rattle.classes.specs.WhiteSpace.{white_space}
use Rattle.utf8.specs.Characters.{read_from}
use Rattle.utf8.specs.Encoding.{encode, byte_length}
use Rattle.utf8.specs.Text.{chars_of, chars_within}
use Rattle.lines.specs.Lines.{pieces, fields_of, meaning_of}
use Rattle.sheets.specs.Filled.{zero_place, filled_line, filled_from, filled}
use Rattle.sheets.specs.OldRule.{old_meaning_of}
use Rattle.sheets.specs.Examples.{SheetExample, EmptyExample, RulesDiffer}

sheets : SheetExample × EmptyExample
unfolding chars_of chars_within read_from byte_length encode fields_of pieces white_space in_ranges zero_place filled_line filled_from filled
sheets = (refl, refl)

pub sheet_example : SheetExample
sheet_example = sheets.0

pub empty_example : EmptyExample
empty_example = sheets.1

pub rules_differ : RulesDiffer
unfolding chars_of chars_within read_from fields_of pieces white_space in_ranges meaning_of old_meaning_of
rules_differ = (refl, refl)
