-- The edges of a block as `word_at` wants them in the slices.
-- Assumes nothing.
use Rattle.std.specs.Prelude.{ℕ, ◌+◌, ◌≤◌, ◌<◌, List, length, get_or}

-- "each position's held words, ends rising", of the edges of a position as they stand in the slices
pub record EndsRiseAt (starts ends : List ℕ) (i : ℕ) : Type 0 where
  pub inside : get_or starts (i + 1) 0 ≤ length ends
  pub further : (place : ℕ) → get_or starts i 0 ≤ place → place + 1 < get_or starts (i + 1) 0 → get_or ends place 0 < get_or ends (place + 1) 0

-- the same of each position of a block of n characters
abbrev pub EndsRise : List ℕ → List ℕ → ℕ → Type 0
EndsRise starts ends n = (i : ℕ) → i < n → EndsRiseAt starts ends i
