-- The lines of a dictionary text: document 01, "A line enters", up to the word and its frequency.
-- Assumes nothing.
use Rattle.std.specs.Prelude.{ℕ, ◌+◌, ◌-◌, ◌*◌, Bool, true, false, not, ◌&&◌, cond, List, [], ◌∷◌, eqb, leb, length, drop}
use Rattle.std.specs.Prelude.{Result, Ok, Err, Option as CodeOption, Some, None}
use Rattle.std.proofs.Math.Option.{Option, none, some}
use Rattle.classes.specs.WhiteSpace.{white_space}
use Rattle.utf8.specs.Encoding.{byte_length}
use Rattle.utf8.specs.Text.{chars_of}
use Rattle.lines.specs.declared.BadFrequency.{BadFrequency}
use Rattle.lines.specs.declared.Entry.{Entry}
use Rattle.lines.specs.declared.Field.{Field}
use Rattle.lines.specs.declared.LineError.{LineError}

-- ---- lines, of bytes

-- an item before the first of these lists, or in one of its own
abbrev pub onto : ℕ → List (List ℕ) → List (List ℕ)
onto x [] = (x ∷ []) ∷ []
onto x (l ∷ ls) = (x ∷ l) ∷ ls

-- "Lines end at LF or the text's end; nothing after a last LF is no line."
unfoldable pub lines_of : List ℕ → List (List ℕ)
lines_of [] = []
lines_of (b ∷ bs) = elim (eqb b 0x0A) [ true ↦ [] ∷ lines_of bs | false ↦ onto b (lines_of bs) ]

-- the items before the first that fails the test, and those from it on
abbrev pub take_while : (ℕ → Bool) → List ℕ → List ℕ
take_while p [] = []
take_while p (x ∷ xs) = cond (p x) (x ∷ take_while p xs) []

abbrev pub drop_while : (ℕ → Bool) → List ℕ → List ℕ
drop_while p [] = []
drop_while p (x ∷ xs) = cond (p x) (drop_while p xs) (x ∷ xs)

-- where the line ends that a position of a text is in
unfoldable pub line_end : List ℕ → ℕ → ℕ
line_end s at = at + length (take_while (λ b. not (eqb b 0x0A)) (drop at s))

-- ---- fields, of characters

-- what stands between white space, empty pieces with it
unfoldable pub pieces : List ℕ → List (List ℕ)
pieces [] = [] ∷ []
pieces (c ∷ cs) = elim (white_space c) [ true ↦ [] ∷ pieces cs | false ↦ onto c (pieces cs) ]

abbrev pub non_empty : List (List ℕ) → List (List ℕ)
non_empty [] = []
non_empty ([] ∷ ls) = non_empty ls
non_empty ((x ∷ l) ∷ ls) = (x ∷ l) ∷ non_empty ls

-- "Fields are split at Unicode White_Space"
unfoldable pub fields_of : List ℕ → List (List ℕ)
fields_of cs = non_empty (pieces cs)

-- ---- a frequency

abbrev pub digit : ℕ → Bool
digit c = leb 0x30 c && leb c 0x39

abbrev pub digits : List ℕ → Bool
digits [] = true
digits (c ∷ cs) = digit c && digits cs

-- the number that follows n's digits
abbrev pub decimal : ℕ → List ℕ → ℕ
decimal n [] = n
decimal n (c ∷ cs) = decimal (n * 10 + (c - 0x30)) cs

abbrev pub greatest : ℕ
greatest = 4294967295

-- digits, of which there is one or more, and their number at most the greatest
unfoldable pub number : List ℕ → Result ℕ BadFrequency
number [] = Err (record {})
number (c ∷ cs) = cond (digits (c ∷ cs) && leb (decimal 0 (c ∷ cs)) greatest) (Ok (decimal 0 (c ∷ cs))) (Err (record {}))

-- "an optional + and one or more digits"
unfoldable pub frequency_of : List ℕ → Result ℕ BadFrequency
frequency_of [] = Err (record {})
frequency_of (c ∷ cs) = cond (eqb c 0x2B) (number cs) (number (c ∷ cs))

-- ---- a line

-- what a line means: nothing that can be read, nothing, a frequency that is none, or a word with its frequency
pub data Meaning : Type 0 where
  malformed : Meaning
  blank : Meaning
  bad_frequency : Meaning
  entry : List ℕ → ℕ → Meaning

abbrev pub with_frequency : List ℕ → Result ℕ BadFrequency → Meaning
with_frequency w (Ok n) = entry w n
with_frequency w (Err e) = bad_frequency

-- "Field 1 is the word, field 2 its frequency", and document 02, note 7: "An absent frequency now means 1."
abbrev pub meaning_of_fields : List (List ℕ) → Meaning
meaning_of_fields [] = blank
meaning_of_fields (w ∷ []) = entry w 1
meaning_of_fields (w ∷ f ∷ fs) = with_frequency w (frequency_of f)

abbrev pub meaning_of_chars : Option (List ℕ) → Meaning
meaning_of_chars none = malformed
meaning_of_chars (some cs) = meaning_of_fields (fields_of cs)

unfoldable pub meaning_of : List ℕ → Meaning
meaning_of line = meaning_of_chars (chars_of line)

-- ---- the same by positions: a word by the bytes where it starts and ends in the line

-- the position after the first characters that pass the test
abbrev pub past : (ℕ → Bool) → ℕ → Option (List ℕ) → ℕ
past p at none = at
past p at (some cs) = at + byte_length (take_while p cs)

-- the test for white space, or for what is none
abbrev pub space_is : Bool → ℕ → Bool
space_is true c = white_space c
space_is false c = not (white_space c)

-- a field, and a line with a word, by where they stand
abbrev pub field_from : ℕ → ℕ → CodeOption Field
field_from a b = Some (record { start = a; end = b })

abbrev pub entry_from : ℕ → ℕ → ℕ → Result (CodeOption Entry) LineError
entry_from a b n = Ok (Some (record { word = record { start = a; end = b }; frequency = n }))

abbrev pub field_placed : ℕ → List (List ℕ) → CodeOption Field
field_placed start [] = None
field_placed start (f ∷ fs) = field_from start (start + byte_length f)

-- the first field from a position on
abbrev pub field_at : ℕ → Option (List ℕ) → CodeOption Field
field_at at none = None
field_at at (some cs) = field_placed (past white_space at (some cs)) (fields_of cs)

abbrev pub line_placed : ℕ → Meaning → Result (CodeOption Entry) LineError
line_placed start malformed = Err LineError.Malformed
line_placed start blank = Ok None
line_placed start bad_frequency = Err LineError.BadFrequency
line_placed start (entry w n) = entry_from start (start + byte_length w) n

-- what a line says
unfoldable pub line_of : List ℕ → Result (CodeOption Entry) LineError
line_of line = line_placed (past white_space 0 (chars_of line)) (meaning_of line)
