-- UTF-16, written from the Unicode Standard, section 3.9 (D91 and table 3-5): how many code units characters take, and which.
-- Assumes nothing.
use Rattle.std.specs.Prelude.{ℕ, ◌+◌, ◌-◌, ◌/◌, ◌%◌, cond, List, [], ◌∷◌, ◌++◌, ltb}

-- "1 unit below U+10000 and 2 from there"
abbrev pub first_of_two : ℕ
first_of_two = 0x10000

abbrev pub units_of : ℕ → ℕ
units_of c = cond (ltb c first_of_two) 1 2

-- how many several characters take
unfoldable pub unit_length : List ℕ → ℕ
unit_length [] = 0
unit_length (c ∷ cs) = units_of c + unit_length cs

-- ---- the encoding itself

-- one unit is the scalar value; two are a surrogate pair, 110110 and the upper ten of the 20 bits above U+10000, then 110111 and the lower ten
abbrev pub encode_utf16 : ℕ → List ℕ
encode_utf16 c = cond (ltb c 0x10000) (c ∷ []) ((0xD800 + (c - 0x10000) / 0x400) ∷ (0xDC00 + (c - 0x10000) % 0x400) ∷ [])

-- several characters, one after the other
abbrev pub encode_text_utf16 : List ℕ → List ℕ
encode_text_utf16 [] = []
encode_text_utf16 (c ∷ cs) = encode_utf16 c ++ encode_text_utf16 cs
