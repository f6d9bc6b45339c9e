-- Steps of one ASCII letter or digit, as the loop of `letters_end` and the turns of `cut_route` meet them.
-- Assumes nothing.
use Prim.Native.Nat.{ℕ, ◌+◌}
use mathlib.Core.Bool.{Bool, true, false, ◌&&◌}
use mathlib.Core.List.{List}
use mathlib.Core.Path.{◌≡◌, ◌∙◌}
use borrow.Author.Tests.{eq-eqb, ne_eqb}
use lib.Dec.{eqb}
use lib.ListN.{get_or}
use Rattle.classes.specs.Blocks.{ascii_letter_or_digit}

abbrev pub letter_at : List ℕ → List ℕ → ℕ → Bool
letter_at chars ends i = eqb (get_or ends i 0) (i + 1) && ascii_letter_or_digit (get_or chars i 0)

module _ (chars ends : List ℕ) (y : ℕ) where
  pub longer_step : (get_or ends y 0 ≡ y + 1 → ⊥) → letter_at chars ends y ≡ false
  longer_step e = rw (ne_eqb (get_or ends y 0) (y + 1) e)

  -- a step of one character, which `is_ascii_alphanumeric` answers with r
  module _ (one : get_or ends y 0 ≡ y + 1) (r : Bool) (class : r ≡ ascii_letter_or_digit (get_or chars y 0)) where
    by_class : letter_at chars ends y ≡ r
    by_class = rw (eq-eqb (get_or ends y 0) (y + 1) one, class)

    pub letter_step : r ≡ true → letter_at chars ends y ≡ true
    letter_step e = by_class ∙ e

    pub other_step : r ≡ false → letter_at chars ends y ≡ false
    other_step e = by_class ∙ e
