-- The classes that are made of others, as the code decides them by calls: a law for each `return`, from what the calls and the tests
-- before it have shown. ASCII ends below 0x80 and Han begins above it, so one side of that test needs no Han and the other
-- no ASCII. Assumes nothing.
use mathlib.Core.Path.{◌≡◌, sym, ◌∙◌}
use mathlib.Core.Bool.{Bool, true, false, not, ◌||◌, or-true, or-false}
use mathlib.Core.List.{List, [], ◌∷◌}
use Prim.Native.Nat.{ℕ, ◌≤◌, ◌<◌, ◌^◌, zero-le}
use types.Run.{OneOf}
use Rattle.classes.specs.Blocks.{han_extension_ranges, han_main, han_extension, han}
use Rattle.classes.specs.Blocks.{ascii_letter_or_digit_ranges, ascii_letter_or_digit, cut_sign_ranges, cut_sign, cut_class}
use Rattle.classes.specs.Tokens.{joining_sign_ranges, joins}
use Rattle.classes.proofs.Ranges.{listed, outside, under}

-- Han, and the class of `cut`, after the answer on the main block
module _ (c : ℕ) (main : Bool) (is_main : main ≡ han_main c) where
  pub han_main_lem : main ≡ true → main ≡ han c
  unfolding han
  han_main_lem t = rw (← is_main, t)

  pub han_extension_lem : (extension : Bool) → main ≡ false → extension ≡ han_extension c → extension ≡ han c
  unfolding han
  han_extension_lem extension f e = rw (← is_main, f, e)

  pub cut_main : main ≡ true → true ≡ cut_class c
  unfolding cut_class
  cut_main t = rw (← han_main_lem t, t)

  -- from 0x80 on there is neither a letter or digit nor a sign
  pub cut_extension : (extension : Bool)
      → main ≡ false → 0x80 ≤ c → c < 2 ^ 32 → extension ≡ han_extension c → extension ≡ cut_class c
  unfolding cut_class ascii_letter_or_digit cut_sign
  cut_extension extension f low high e =
      rw (
        ← han_extension_lem extension f e,
        ← outside [] ascii_letter_or_digit_ranges 0x80 (2 ^ 32) c (λ none. none) low high tt,
        ← outside [] cut_sign_ranges 0x80 (2 ^ 32) c (λ none. none) low high tt,
      )
      (sym (or-false (extension || false) ∙ or-false extension))

  -- and below 0x80 no extension
  module _ (letter : Bool) (is_letter : letter ≡ ascii_letter_or_digit c) where
    pub cut_letter : letter ≡ true → letter ≡ cut_class c
    unfolding cut_class
    cut_letter t = rw (← is_letter, t, or-true (han c))

    pub cut_sign_lem : (sign : Bool) → main ≡ false → c < 0x80 → letter ≡ false → sign ≡ cut_sign c → sign ≡ cut_class c
    unfolding cut_class han_extension
    cut_sign_lem sign f high n e =
        rw (← han_extension_lem false f (under [] han_extension_ranges 0x80 c (λ none. none) high tt), ← is_letter, n, e)

-- the signs that `is_skip_cut_all` tests, in the order of their code points
abbrev pub joining_signs : List ℕ
joining_signs = 0x0A ∷ 0x23 ∷ 0x2B ∷ []

-- whether c joins, after the test for a sign
module _ (c : ℕ) where
  pub sign_joins : OneOf joining_signs c → false ≡ not (joins c)
  unfolding joins
  sign_joins h = rw (← listed joining_signs joining_sign_ranges c h tt, or-true (ascii_letter_or_digit c))

  pub letter_joins : (letter : Bool)
      → (OneOf joining_signs c → ⊥) → c < 2 ^ 32 → letter ≡ ascii_letter_or_digit c → not letter ≡ not (joins c)
  unfolding joins
  letter_joins letter other high e =
      rw (← outside joining_signs joining_sign_ranges 0 (2 ^ 32) c other zero-le high tt, ← e, or-false letter)
