-- The classes of characters by which tokens are made (document 01, "Tokens"). Assumes nothing.
use Rattle.std.specs.Prelude.{Bool, ◌||◌, List, [], ◌∷◌, ℕ}
use Rattle.classes.specs.Ranges.{Range, range, code_point, in_ranges}
use Rattle.classes.specs.Blocks.{ascii_letter_or_digit}

-- 01: "if it has . _ or -, its parts between them"
abbrev pub connector_ranges : List Range
connector_ranges = code_point 0x2E ∷ code_point 0x5F ∷ code_point 0x2D ∷ []

unfoldable pub connector : ℕ → Bool
connector c = in_ranges connector_ranges c

-- 01: "+ # LF"
abbrev pub joining_sign_ranges : List Range
joining_sign_ranges = code_point 0x2B ∷ code_point 0x23 ∷ code_point 0x0A ∷ []

-- 01: "elsewhere maximal runs of ASCII letters, digits, + # LF, all else singly"
unfoldable pub joins : ℕ → Bool
joins c = ascii_letter_or_digit c || in_ranges joining_sign_ranges c

-- 01: "with an ASCII letter": A to Z, a to z
abbrev pub ascii_letter_ranges : List Range
ascii_letter_ranges = range 0x41 0x5A ∷ range 0x61 0x7A ∷ []

unfoldable pub ascii_letter : ℕ → Bool
ascii_letter c = in_ranges ascii_letter_ranges c
