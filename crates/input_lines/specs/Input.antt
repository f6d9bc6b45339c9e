-- The input's lines, as they are read piece by piece. Of a line only its beginning is kept: as much as tells whether it is a frame, and which
-- (`Claims.antt`). Assumes nothing.
use Rattle.std.specs.Prelude.{ℕ, ◌+◌, ◌*◌, true, false, cond, Option, Some, None, List, [], ◌∷◌, ◌++◌, eqb, ltb, length}
use Rattle.printing.specs.Answers.{line_end}
use Rattle.frames.specs.Frames.{longest}

-- the digits of the longest frame, its kind with them
abbrev pub longest_line : ℕ
longest_line = 2 + 2 * longest

-- one more than that is kept of a line
abbrev pub most_kept : ℕ
most_kept = longest_line + 1

abbrev pub keep : List ℕ → ℕ → List ℕ
keep line b = cond (ltb (length line) most_kept) (line ++ (b ∷ [])) line

-- what is kept of a line and, where it is whole, the input after it
pub record Taken : Type 0 where
  pub line : List ℕ
  pub rest : Option (List ℕ)

abbrev pub taken : List ℕ → Option (List ℕ) → Taken
taken line rest = record { line = line; rest = rest }

-- the input up to the next LF, or up to its end, after what is kept of the line already
unfoldable pub line_from : List ℕ → List ℕ → Taken
line_from line [] = taken line None
line_from line (b ∷ input) = elim (eqb b line_end) [ true ↦ taken line (Some input) | false ↦ line_from (keep line b) input ]
