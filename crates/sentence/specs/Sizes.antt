-- What the tests of a book say by its head and by how long its areas are: of a book with these sizes it is `tested_book` of `cuts/specs/Cuts.antt`.
-- Assumes nothing.
use Rattle.std.specs.Prelude.{ℕ, ◌+◌, ◌/◌}
use Rattle.book.specs.declared.Head.{Head}
use Rattle.book.specs.Returns.{head_damaged}
use Rattle.book.specs.Areas.{areas_allowed}
use Rattle.cuts.specs.Cuts.{Tested}

abbrev pub tested_sizes : Head → ℕ → ℕ → ℕ → ℕ → Tested
tested_sizes head roots slots records logarithms =
    record { sizes = areas_allowed roots slots records logarithms; damage = head_damaged head records ((slots + 1) / 2) }
