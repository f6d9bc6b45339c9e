-- Characters that join, by what `is_skip_cut_all` answers. Assumes nothing.
use Prim.Native.Nat.{ℕ}
use mathlib.Core.Bool.{Bool, true, false, not}
use mathlib.Core.List.{List}
use mathlib.Core.Path.{◌≡◌, sym, ◌∙◌}
use borrow.Author.Tests.{not-true, not-false}
use lib.ListN.{get_or}
use Rattle.classes.specs.Tokens.{joins}

abbrev pub joins_at : List ℕ → ℕ → Bool
joins_at chars i = joins (get_or chars i 0)

-- what `is_skip_cut_all` answers with r
module _ (c : ℕ) (r : Bool) (class : r ≡ not (joins c)) where
  pub stands_singly : r ≡ true → joins c ≡ false
  stands_singly e = not-true (joins c) (sym class ∙ e)

  pub joins_on : r ≡ false → joins c ≡ true
  joins_on e = not-false (joins c) (sym class ∙ e)
