-- What crosses the border of the static library as numbers. A head crosses as four, records used, slots used, next node and total; what a
-- lookup found as three, document 01's number, whether the word is held and its frequency; a mode as one.
-- Assumes nothing.
use Rattle.std.specs.Prelude.{ℕ, Bool, cond, List, [], ◌∷◌, eqb, leb, get_or}
use Rattle.book.specs.declared.Head.{Head}
use Rattle.book.specs.Numbers.{Beside, value, absent, nothing, Returned}
use Rattle.cuts.specs.declared.TokenizeMode.{TokenizeMode}
use Rattle.cuts.specs.declared.TokenizeMode.TheVariants.{Default, Search}
use Rattle.numbers.specs.declared.FoundNumbers.{FoundNumbers}

abbrev pub head_length : ℕ
head_length = 4

abbrev pub head_of : List ℕ → Head
head_of h = record { records = get_or h 0 0; slots = get_or h 1 0; next = get_or h 2 0; total = get_or h 3 0 }

abbrev pub head_numbers : Head → List ℕ
head_numbers h = h.records ∷ h.slots ∷ h.next ∷ h.total ∷ []

-- ---- what is returned beside the number: whether there is a value (1 or 0), and the value, 0 where there is none

abbrev pub has_value : Beside → ℕ
has_value (value v) = 1
has_value absent = 0
has_value nothing = 0

abbrev pub value_of : Beside → ℕ
value_of (value v) = v
value_of absent = 0
value_of nothing = 0

-- what a lookup found
abbrev pub found_numbers : ℕ → ℕ → ℕ → FoundNumbers
found_numbers n h f = record { number = n; held = h; frequency = f }

abbrev pub found_as : Returned → FoundNumbers
found_as r = found_numbers r.number (has_value r.beside) (value_of r.beside)

-- the modes: 0 is `cut`, 1 is `cut_for_search`, and there is no other
abbrev pub search_mode : ℕ
search_mode = 1

abbrev pub is_mode : ℕ → Bool
is_mode mode = leb mode search_mode

abbrev pub mode_of : ℕ → TokenizeMode
mode_of mode = cond (eqb mode search_mode) Search Default
