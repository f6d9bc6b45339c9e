-- The characters that separate the fields of a dictionary line (document 01, "A line enters"). Assumes nothing.
use Rattle.std.specs.Prelude.{Bool, List, [], ◌∷◌, ℕ}
use Rattle.classes.specs.Ranges.{Range, range, code_point, in_ranges}

-- 01: "Unicode White_Space (U+0009..000D, 0020, 0085, 00A0, 1680, 2000..200A, 2028, 2029, 202F, 205F, 3000)"
abbrev pub white_space_ranges : List Range
white_space_ranges =
    range 0x0009 0x000D
    ∷ code_point 0x0020
    ∷ code_point 0x0085
    ∷ code_point 0x00A0
    ∷ code_point 0x1680
    ∷ range 0x2000 0x200A
    ∷ code_point 0x2028
    ∷ code_point 0x2029
    ∷ code_point 0x202F
    ∷ code_point 0x205F
    ∷ code_point 0x3000
    ∷ []

unfoldable pub white_space : ℕ → Bool
white_space c = in_ranges white_space_ranges c
