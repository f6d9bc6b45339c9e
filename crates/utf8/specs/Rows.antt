-- The rows of `sequences`, which are those of the Unicode Standard's table 3-7 of well-formed byte sequences, by their octets' ranges: what is decided
-- of a lead byte and a second byte, and of the bytes after them.
-- Assumes nothing.
use Rattle.std.specs.Prelude.{ℕ, Bool, false, cond, ◌&&◌, ◌||◌, List, [], ◌∷◌, map, leb, eqb, length, take, Result, Ok, Err}
use Rattle.utf8.specs.declared.Malformed.{Malformed}
use Rattle.utf8.specs.Characters.{Octets, tail, sequences, starts_with}

-- whether a byte is one of a range
abbrev pub inside : Octets → ℕ → Bool
inside r b = leb r.first b && leb b r.last

-- whether the bytes begin with a sequence of one of these rows
abbrev pub any_row : List (List Octets) → List ℕ → Bool
any_row [] bs = false
any_row (row ∷ rows) bs = starts_with row bs || any_row rows bs

-- those of so many octets
abbrev pub of_length : ℕ → List (List Octets) → List (List Octets)
of_length n [] = []
of_length n (row ∷ rows) = cond (eqb (length row) n) (row ∷ of_length n rows) (of_length n rows)

-- whether a lead byte and a second byte begin a sequence of so many octets: they are in the first two ranges of one of those rows
abbrev pub begins_row : ℕ → ℕ → ℕ → Bool
begins_row n b0 b1 = any_row (map (take 2) (of_length n sequences)) (b0 ∷ b1 ∷ [])

-- a third or fourth byte, where it is UTF8-tail
abbrev pub tail_of : ℕ → Result ℕ Malformed
tail_of b = cond (inside tail b) (Ok b) (Err (record {}))
