-- What the slices that are lent to a cut say in the terms of `cuts/specs/Cuts.antt`: how long the work area and the edge area are.
-- "An area of several slices counts as its shortest". Assumes nothing.
use Rattle.std.specs.Prelude.{ℕ, List, [], ◌∷◌, Float, length}
use Rattle.cuts.specs.Slices.{shortest}

abbrev pub work_of : List ℕ → List ℕ → List ℕ → List Float → List ℕ → List ℕ → ℕ
work_of chars offsets starts scores ends records = shortest (length chars) (length offsets ∷ length starts ∷ length scores ∷ length ends ∷ length records ∷ [])

abbrev pub room_of : List ℕ → List ℕ → ℕ
room_of edge_ends edge_records = shortest (length edge_ends) (length edge_records ∷ [])
