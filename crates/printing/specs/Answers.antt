-- The answer to a frame as a line of bytes: document 01, "Examples by book", "Program `cutlines`": "one line in lowercase hexadecimal".
-- Assumes nothing.
use Rattle.std.specs.Prelude.{ℕ, zero, suc, ◌+◌, ◌/◌, ◌%◌, cond, List, [], ◌∷◌, ◌++◌, ◌≡◌, ltb, length}
use Rattle.std.proofs.lemmas.List.Edits.{sets}

abbrev pub digit_of : ℕ → ℕ
digit_of n = cond (ltb n 10) (0x30 + n) (0x57 + n)

-- the last so many digits of a number
unfoldable pub digits : ℕ → ℕ → List ℕ
digits zero n = []
digits (suc k) n = digits k (n / 16) ++ (digit_of (n % 16) ∷ [])

abbrev pub two : ℕ → List ℕ
two n = digits 2 n

abbrev pub four : ℕ → List ℕ
four n = digits 4 n

unfoldable pub fours : List ℕ → List ℕ
fours [] = []
fours (n ∷ ns) = four n ++ fours ns

abbrev pub line_end : ℕ
line_end = 0x0A

-- "the returned number (two digits), line or token count (four), then per token character start, end, byte start, end (four each)", and document 02,
-- note 6: UTF-16 offsets "after the byte offsets, four digits each": the tokens' numbers in their order
unfoldable pub line_of : ℕ → ℕ → List ℕ → List ℕ
line_of number count numbers = two number ++ (four count ++ (fours numbers ++ (line_end ∷ [])))

-- a line is written into an area from a place on, and ends at another
pub record Put (before : List ℕ) (at : ℕ) (line after : List ℕ) (end : ℕ) : Type 0 where
  pub area : after ≡ sets before at line
  pub ends : end ≡ at + length line

-- "any other line prints fe"
abbrev pub no_frame_line : List ℕ
no_frame_line = 0x66 ∷ 0x65 ∷ line_end ∷ []
