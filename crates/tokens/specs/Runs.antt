-- Runs of a block's positions, as loops find them.
-- Assumes nothing.
use Rattle.std.specs.Prelude.{ℕ, ◌≤◌, ◌<◌, Bool, true, false, ◌≡◌}

-- a maximal run, from a position up to another, of positions of which something holds, in a block of n characters
pub record MaximalRun (holds : ℕ → Bool) (n from to : ℕ) : Type 0 where
  pub forward : from ≤ to
  pub inside : to ≤ n
  pub all : (i : ℕ) → from ≤ i → i < to → holds i ≡ true
  pub no_more : to < n → holds to ≡ false
