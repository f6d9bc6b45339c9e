-- A slice of four numbers after four writes, what a lookup found by its case, and a mode by its test.
-- Assumes nothing.
use mathlib.Core.Path.{◌≡◌, refl, sym, ap}
use mathlib.Core.List.{List, [], ◌∷◌}
use Prim.Native.Nat.{ℕ}
use native.Mathlib.Omega.{arith}
use borrow.Author.Tests.{eq-eqb, ne_eqb}
use lib.ListN.{length, set}
use Rattle.book.specs.Returns.{Found}
use Rattle.book.specs.Numbers.{found_returns}
use Rattle.cuts.specs.declared.TokenizeMode.TheVariants.{Default, Search}
use Rattle.numbers.specs.Numbers.{head_length, found_as, search_mode, mode_of}

pub found_case : {found case : Found} → found ≡ case → found_as (found_returns case) ≡ found_as (found_returns found)
found_case is = ap (λ (x : Found). found_as (found_returns x)) (sym is)

pub to_search : (mode : ℕ) → mode ≡ search_mode → Search ≡ mode_of mode
to_search mode e = rw (eq-eqb mode search_mode e)

pub to_default : (mode : ℕ) → (mode ≡ search_mode → ⊥) → Default ≡ mode_of mode
to_default mode other = rw (ne_eqb mode search_mode other)

pub four_written : (h : List ℕ) (a b c d : ℕ) → length h ≡ head_length → set (set (set (set h 0 a) 1 b) 2 c) 3 d ≡ a ∷ b ∷ c ∷ d ∷ []
four_written [] a b c d e = absurd (omega arith)
four_written (x ∷ []) a b c d e = absurd (omega arith)
four_written (x ∷ y ∷ []) a b c d e = absurd (omega arith)
four_written (x ∷ y ∷ z ∷ []) a b c d e = absurd (omega arith)
four_written (x ∷ y ∷ z ∷ w ∷ []) a b c d e = refl
four_written (x ∷ y ∷ z ∷ w ∷ u ∷ h) a b c d e = absurd (omega arith)
