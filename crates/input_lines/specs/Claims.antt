-- What holds of frames and of the input beside their definitions. Proofs: `proofs/Claims.antt`. Assumes nothing.
use Rattle.std.specs.Prelude.{Some, None, List, [], ◌∷◌, ◌++◌, ◌≡◌, ℕ, take}
use Rattle.printing.specs.Answers.{line_end}
use Rattle.frames.specs.Frames.{frame_of}
use Rattle.input_lines.specs.Input.{most_kept, Taken, taken, line_from}

-- of a line of any length its beginning tells whether it is a frame, and which
abbrev pub BeginningIsEnough : Type 0
BeginningIsEnough = (line : List ℕ) → frame_of (take most_kept line) ≡ frame_of line

-- bytes without an LF
abbrev pub NoLineEnd : List ℕ → Type 0
NoLineEnd [] = Unit {0}
NoLineEnd (b ∷ bytes) = (b ≡ line_end → ⊥) × NoLineEnd bytes

-- a line that ends with an LF is kept from its beginning, and the input goes on after the LF
abbrev pub LinesEndAtLineEnds : Type 0
LinesEndAtLineEnds = (line rest : List ℕ) → NoLineEnd line → line_from [] (line ++ (line_end ∷ rest)) ≡ taken (take most_kept line) (Some rest)

-- the last line needs no LF
abbrev pub LastLineNeedsNone : Type 0
LastLineNeedsNone = (line : List ℕ) → NoLineEnd line → line_from [] line ≡ taken (take most_kept line) None

-- an input that comes in pieces is read as one that comes at once
abbrev pub after : List ℕ → Taken → Taken
after more t = elim t.rest [ Some rest ↦ taken t.line (Some (rest ++ more)) | None ↦ line_from t.line more ]

abbrev pub PiecesMakeNoDifference : Type 0
PiecesMakeNoDifference = (line piece more : List ℕ) → line_from line (piece ++ more) ≡ after more (line_from line piece)
