-- One character in UTF-8, written from RFC 3629: section 4's syntax of byte sequences, and section 3's table of the bits that make a character number.
-- Assumes nothing.
use Rattle.std.specs.Prelude.{ℕ, ◌+◌, ◌*◌, ◌%◌, Bool, true, false, cond, ◌&&◌, List, [], ◌∷◌, leb, length, take, drop, Result, Ok, Err, Option, Some, None}
use Rattle.utf8.specs.declared.Malformed.{Malformed}
use Rattle.utf8.specs.declared.NextChar.{NextChar}
use Rattle.utf8.specs.Utf16.{units_of}

-- a range of octets, as %xC2-DF
pub record Octets : Type 0 where
  pub first : ℕ
  pub last : ℕ

abbrev pub octets : ℕ → ℕ → Octets
octets a b = record { first = a; last = b }

-- UTF8-tail = %x80-BF
abbrev pub tail : Octets
tail = octets 0x80 0xBF

-- UTF8-1 = %x00-7F
-- UTF8-2 = %xC2-DF UTF8-tail
-- UTF8-3 = %xE0 %xA0-BF UTF8-tail / %xE1-EC 2( UTF8-tail ) / %xED %x80-9F UTF8-tail / %xEE-EF 2( UTF8-tail )
-- UTF8-4 = %xF0 %x90-BF 2( UTF8-tail ) / %xF1-F3 3( UTF8-tail ) / %xF4 %x80-8F 2( UTF8-tail )
abbrev pub sequences : List (List Octets)
sequences =
    (octets 0x00 0x7F ∷ [])
    ∷ (octets 0xC2 0xDF ∷ tail ∷ [])
    ∷ (octets 0xE0 0xE0 ∷ octets 0xA0 0xBF ∷ tail ∷ [])
    ∷ (octets 0xE1 0xEC ∷ tail ∷ tail ∷ [])
    ∷ (octets 0xED 0xED ∷ octets 0x80 0x9F ∷ tail ∷ [])
    ∷ (octets 0xEE 0xEF ∷ tail ∷ tail ∷ [])
    ∷ (octets 0xF0 0xF0 ∷ octets 0x90 0xBF ∷ tail ∷ tail ∷ [])
    ∷ (octets 0xF1 0xF3 ∷ tail ∷ tail ∷ tail ∷ [])
    ∷ (octets 0xF4 0xF4 ∷ octets 0x80 0x8F ∷ tail ∷ tail ∷ [])
    ∷ []

-- whether the bytes begin with octets of these ranges
abbrev pub starts_with : List Octets → List ℕ → Bool
starts_with [] bs = true
starts_with (r ∷ rs) [] = false
starts_with (r ∷ rs) (b ∷ bs) = leb r.first b && leb b r.last && starts_with rs bs

-- the bits marked x of 0xxxxxxx, 110xxxxx 10xxxxxx, 1110xxxx 10xxxxxx 10xxxxxx and 11110xxx 10xxxxxx 10xxxxxx 10xxxxxx
abbrev pub character_number : List ℕ → ℕ
character_number [] = 0
character_number (a ∷ []) = a
character_number (a ∷ b ∷ []) = a % 0x20 * 0x40 + b % 0x40
character_number (a ∷ b ∷ c ∷ []) = a % 0x10 * 0x1000 + b % 0x40 * 0x40 + c % 0x40
character_number (a ∷ b ∷ c ∷ d ∷ rest) = a % 0x08 * 0x40000 + b % 0x40 * 0x1000 + c % 0x40 * 0x40 + d % 0x40

-- what bytes begin with: a character, nothing where there are none, or bytes that begin no character
abbrev pub Read : Type 0
Read = Result (Option NextChar) Malformed

-- a character by its number, how many bytes it takes, and how many code units in UTF-16
abbrev pub char : ℕ → ℕ → ℕ → Read
char c w u = Ok (Some (record { value = c; width = w; units = u }))

abbrev pub ended : Read
ended = Ok None

abbrev pub malformed : Read
malformed = Err (record {})

-- a character by its number and by how many bytes it takes, with the code units that it takes in UTF-16
abbrev pub character : ℕ → ℕ → Read
character c w = char c w (units_of c)

-- the character of the first of these sequences with which the bytes begin
abbrev pub read_by : List (List Octets) → List ℕ → Read
read_by [] bs = malformed
read_by (s ∷ rest) bs = cond (starts_with s bs) (character (character_number (take (length s) bs)) (length s)) (read_by rest bs)

-- the character with which the bytes begin
unfoldable pub read_from : List ℕ → Read
read_from [] = ended
read_from (b ∷ bs) = read_by sequences (b ∷ bs)

-- the character at a position of a text
unfoldable pub character_at : List ℕ → ℕ → Read
character_at s at = read_from (drop at s)
