-- What is claimed of the definitions of `Characters` and `Text`: they read by the nine rows of the table, and exactly the encodings of scalar values.
-- Proofs: `proofs/Table.antt`, `proofs/Encodings.antt`, `proofs/Texts.antt`, `proofs/Utf16.antt`.
-- Assumes nothing.
use Rattle.std.specs.Prelude.{ℕ, ◌+◌, ◌-◌, ◌*◌, ◌≤◌, ◌≡◌, Bool, true, false, length, take, drop, Ok, Err, Some, None}
use mathlib.Core.List.{List, [], ◌∷◌, ◌++◌, Memᴰ}
use Rattle.std.proofs.Math.Option.{some}
use Rattle.utf8.specs.Characters.{Read, char, Octets, sequences, starts_with, character_number, read_from}
use Rattle.utf8.specs.Rows.{any_row}
use Rattle.utf8.specs.Encoding.{Scalar, Scalars, encode, encode_text}
use Rattle.utf8.specs.Utf16.{unit_length, encode_utf16, encode_text_utf16}
use Rattle.utf8.specs.Text.{chars_of}

-- ---- by the table's rows: "a character is read exactly where the bytes begin with a sequence of one of its nine rows"

abbrev pub NineRows : Type 0
NineRows = length sequences ≡ 9

abbrev pub is_character : Read → Bool
is_character (Ok (Some c)) = true
is_character (Ok None) = false
is_character (Err e) = false

abbrev pub ReadExactlyByRows : Type 0
ReadExactlyByRows = (bs : List ℕ) → is_character (read_from bs) ≡ any_row sequences bs

-- its width and its value are that row's
pub record ByRow (bs : List ℕ) (c w : ℕ) : Type 0 where
  pub row : List Octets
  pub in_table : Memᴰ row sequences
  pub begins : starts_with row bs ≡ true
  pub width : w ≡ length row
  pub value : c ≡ character_number (take w bs)

abbrev pub ReadByItsRow : Type 0
ReadByItsRow = (bs : List ℕ) (c w u : ℕ) → read_from bs ≡ char c w u → ByRow bs c w

-- no bytes begin with two rows
abbrev pub OneRowOnly : Type 0
OneRowOnly =
    (bs : List ℕ) (row other : List Octets) → Memᴰ row sequences → Memᴰ other sequences
    → starts_with row bs ≡ true → starts_with other bs ≡ true → row ≡ other

-- ---- by the encodings

-- encode, then read: the value, its width and its units in UTF-16, whatever follows
abbrev pub ReadsEncodings : Type 0
ReadsEncodings = (c : ℕ) (rest : List ℕ) → Scalar c → read_from (encode c ++ rest) ≡ char c (length (encode c)) (length (encode_utf16 c))

-- whatever is read is such an encoding
abbrev pub ReadsOnlyEncodings : Type 0
ReadsOnlyEncodings =
    (bs : List ℕ) (c w u : ℕ) → read_from bs ≡ char c w u
    → Scalar c × (length (encode c) ≡ w) × (encode c ++ drop w bs ≡ bs) × (length (encode_utf16 c) ≡ u)

-- the same of whole texts
abbrev pub TextsOfEncodings : Type 0
TextsOfEncodings = (cs : List ℕ) → Scalars cs → chars_of (encode_text cs) ≡ some cs

abbrev pub TextsOnlyOfEncodings : Type 0
TextsOnlyOfEncodings = (bs cs : List ℕ) → chars_of bs ≡ some cs → Scalars cs × (encode_text cs ≡ bs)

-- ---- UTF-16

-- sums of units count the code units of the encoding
abbrev pub UnitsOfEncoding : Type 0
UnitsOfEncoding = (cs : List ℕ) → unit_length cs ≡ length (encode_text_utf16 cs)

-- from U+10000 on the encoding is a surrogate pair, and the pair gives the scalar value back
pub record Pair (c : ℕ) : Type 0 where
  pub high : ℕ
  pub low : ℕ
  pub encoded : encode_utf16 c ≡ high ∷ low ∷ []
  pub is_high : (0xD800 ≤ high) × (high ≤ 0xDBFF)
  pub is_low : (0xDC00 ≤ low) × (low ≤ 0xDFFF)
  pub value : 0x10000 + (high - 0xD800) * 0x400 + (low - 0xDC00) ≡ c

abbrev pub SurrogatePairs : Type 0
SurrogatePairs = (c : ℕ) → Scalar c → 0x10000 ≤ c → Pair c
