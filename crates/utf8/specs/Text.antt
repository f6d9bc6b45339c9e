-- A whole text in UTF-8, as the list of its characters.
-- Assumes nothing.
use Rattle.std.specs.Prelude.{ℕ, zero, suc, List, [], ◌∷◌, length, drop, Result, Ok, Err, Some, None}
use Rattle.std.proofs.Math.Option.{Option, none, some}
use Rattle.utf8.specs.declared.Malformed.{Malformed}
use Rattle.utf8.specs.Characters.{read_from}

-- a character before those of the rest, if the rest has them
abbrev pub before : ℕ → Option (List ℕ) → Option (List ℕ)
before c none = none
before c (some cs) = some (c ∷ cs)

-- the characters of a text of at most n bytes; none where it is malformed anywhere
unfoldable pub chars_within : ℕ → List ℕ → Option (List ℕ)
chars_within zero bs = some []
chars_within (suc n) bs = elim (read_from bs) [ Ok (Some c) ↦ before c.value (chars_within n (drop c.width bs)) | Ok None ↦ some [] | Err e ↦ none ]

-- the characters of a text, as scalar values; none where it is malformed
unfoldable pub chars_of : List ℕ → Option (List ℕ)
chars_of bs = chars_within (length bs) bs

-- those from a position on
unfoldable pub chars_from : List ℕ → ℕ → Option (List ℕ)
chars_from s at = chars_of (drop at s)

-- how many there are
abbrev pub count_of : Option (List ℕ) → Result ℕ Malformed
count_of none = Err (record {})
count_of (some cs) = Ok (length cs)
