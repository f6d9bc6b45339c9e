-- What one token brings in search, in the terms of `cuts/specs/Tokens.antt`.
-- Assumes nothing.
use Rattle.std.specs.Prelude.{ℕ, List, [], ◌∷◌, ◌++◌}
use Rattle.book.specs.Prefixes.{Edge}
use Rattle.cuts.specs.Tokens.{Span, parts_of, words_of_size}

-- "if it has . _ or -, its parts between them of at least 2 bytes with an ASCII letter; if over 2 characters, its held 2-character words; if over 3, its
-- held 3-character words; then itself"
unfoldable pub brought_by : List ℕ → List (List Edge) → Span → List Span
brought_by chars rows s = parts_of chars s ++ (words_of_size 2 rows s ++ (words_of_size 3 rows s ++ (s ∷ [])))
