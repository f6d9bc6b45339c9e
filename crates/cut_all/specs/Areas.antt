-- What the slices that are lent to `cut_all` say in the terms of `cuts/specs/Cuts.antt`.
-- Assumes nothing.
use Rattle.std.specs.Prelude.{ℕ, List, [], ◌∷◌, length}
use Rattle.cuts.specs.Slices.{shortest}

-- how long the work area is: "An area of several slices counts as its shortest"
abbrev pub work_of : List ℕ → List ℕ → ℕ
work_of chars offsets = shortest (length chars) (length offsets ∷ [])
