-- A record of a book, by how many cells and logarithms there are. Assumes nothing.
use Rattle.std.specs.Prelude.{ℕ, ◌≤◌, ◌<◌}
use Rattle.book.specs.Returns.{most_records}

pub record RecordInside (records logarithms n : ℕ) : Type 0 where
  pub in_records : n < records
  pub in_logarithms : n < logarithms
  pub few_records : records ≤ most_records
  pub few_logarithms : logarithms ≤ most_records
