-- The classes of characters that part a sentence into blocks (document 01, "The sentence's blocks"; document 02, note 9). Assumes
-- nothing.
use Rattle.std.specs.Prelude.{Bool, ◌||◌, List, [], ◌∷◌, ℕ}
use Rattle.classes.specs.Ranges.{Range, range, code_point, in_ranges}

-- 01: "Han is U+4E00..9FFF"
abbrev pub han_main_ranges : List Range
han_main_ranges = range 0x4E00 0x9FFF ∷ []

-- 01: "or an extension: U+3400..4DBF, F900..FAFF, 20000..2A6DF, 2A700..2B73F, 2B740..2B81F, 2B820..2CEAF, 2CEB0..2EBEF, 2F800..2FA1F"
-- 02, note 9: "Extension G (U+30000..3134F), H (U+31350..323AF) and I (U+2EBF0..2EE5F). All three join Han, for every cut."
abbrev pub han_extension_ranges : List Range
han_extension_ranges =
    range 0x3400 0x4DBF
    ∷ range 0xF900 0xFAFF
    ∷ range 0x20000 0x2A6DF
    ∷ range 0x2A700 0x2B73F
    ∷ range 0x2B740 0x2B81F
    ∷ range 0x2B820 0x2CEAF
    ∷ range 0x2CEB0 0x2EBEF
    ∷ range 0x2F800 0x2FA1F
    ∷ range 0x30000 0x3134F
    ∷ range 0x31350 0x323AF
    ∷ range 0x2EBF0 0x2EE5F
    ∷ []

unfoldable pub han_main : ℕ → Bool
han_main c = in_ranges han_main_ranges c

unfoldable pub han_extension : ℕ → Bool
han_extension c = in_ranges han_extension_ranges c

unfoldable pub han : ℕ → Bool
han c = han_main c || han_extension c

-- 01: "ASCII letters and digits": 0 to 9, A to Z, a to z
abbrev pub ascii_letter_or_digit_ranges : List Range
ascii_letter_or_digit_ranges = range 0x30 0x39 ∷ range 0x41 0x5A ∷ range 0x61 0x7A ∷ []

unfoldable pub ascii_letter_or_digit : ℕ → Bool
ascii_letter_or_digit c = in_ranges ascii_letter_or_digit_ranges c

-- 01: "and + # & . _ % -"
abbrev pub cut_sign_ranges : List Range
cut_sign_ranges =
    code_point 0x2B
    ∷ code_point 0x23
    ∷ code_point 0x26
    ∷ code_point 0x2E
    ∷ code_point 0x5F
    ∷ code_point 0x25
    ∷ code_point 0x2D
    ∷ []

unfoldable pub cut_sign : ℕ → Bool
cut_sign c = in_ranges cut_sign_ranges c

-- 01: "For `cut` the class is Han, ASCII letters and digits, and + # & . _ % -."
unfoldable pub cut_class : ℕ → Bool
cut_class c = han c || ascii_letter_or_digit c || cut_sign c

-- 01: "For `cut_all` it is Han."
abbrev pub cut_all_class : ℕ → Bool
cut_all_class c = han c
