-- Cases by a test: what holds where `leb a b` passes, and where it fails, holds of the test. `ltb a b` is `leb (suc a) b`, and goes the same way.
-- Assumes nothing.
use Prim.Native.Nat.{ℕ, ◌≤◌, ◌<◌}
use mathlib.Core.Bool.{Bool, true, false}
use mathlib.Core.Path.{◌≡◌, refl}
use lib.Dec.{leb}
use borrow.Author.Tests.{leb-true, leb-false}

pub by_leb : (a b : ℕ) (P : Bool → Type 0) → (a ≤ b → P true) → (b < a → P false) → P (leb a b)
by_leb a b P passed failed = go (leb a b) refl
  where
    go : (test : Bool) → leb a b ≡ test → P test
    go true e = passed (leb-true a b e)
    go false e = failed (leb-false a b e)
