-- UTF-16: a character's units by its value, sums of units, and the claims that they count the code units of the encoding.
-- Assumes nothing.
use mathlib.Core.Path.{◌≡◌, refl, sym, ap, ◌∙◌}
use mathlib.Core.Bool.{Bool, true, false, cond}
use mathlib.Core.Logic.{⊎_elim}
use mathlib.Core.List.{List, [], ◌∷◌, ◌++◌}
use Prim.Native.Nat.{ℕ, ◌+◌, ◌-◌, ◌/◌, ◌%◌, ◌≤◌, ◌<◌}
use native.Mathlib.Omega.{arith}
use lib.Dec.{ltb}
use lib.ListN.{length, length-append}
use borrow.Author.Tests.{lt-ltb, le-ltb}
use Rattle.utf8.specs.Utf16.{first_of_two, units_of, unit_length, encode_utf16, encode_text_utf16}
use Rattle.utf8.specs.Claims.{UnitsOfEncoding, SurrogatePairs}

-- ---- one character

module _ (c : ℕ) where
  pub one_unit : c < 0x10000 → units_of c ≡ 1
  one_unit h = rw (lt-ltb c first_of_two (omega arith))

  pub two_units : 0x10000 ≤ c → units_of c ≡ 2
  two_units h = rw (le-ltb c first_of_two (omega arith))

  pub units_encoded : units_of c ≡ length (encode_utf16 c)
  units_encoded = by (ltb c 0x10000)
    where
      by : (t : Bool) → cond t 1 2 ≡ length (cond t (c ∷ []) ((0xD800 + (c - 0x10000) / 0x400) ∷ (0xDC00 + (c - 0x10000) % 0x400) ∷ []))
      by true = refl
      by false = refl

pub surrogate_pairs : SurrogatePairs
surrogate_pairs c scalar h =
    let most : c ≤ 0x10FFFF = ⊎_elim (λ low. omega arith) (λ high. high.1) scalar in
    record {
      high = 0xD800 + (c - 0x10000) / 0x400;
      low = 0xDC00 + (c - 0x10000) % 0x400;
      encoded = rw (le-ltb c 0x10000 h);
      is_high = (omega arith, omega arith);
      is_low = (omega arith, omega arith);
      value = omega arith;
    }

-- ---- several

pub units_of_encoding : UnitsOfEncoding
unfolding unit_length
units_of_encoding [] = refl
units_of_encoding (c ∷ cs) =
    ap (λ (n : ℕ). n + unit_length cs) (units_encoded c)
    ∙ ap (λ (n : ℕ). length (encode_utf16 c) + n) (units_of_encoding cs)
    ∙ sym (length-append (encode_utf16 c) (encode_text_utf16 cs))

pub unit_length_append : (xs ys : List ℕ) → unit_length (xs ++ ys) ≡ unit_length xs + unit_length ys
unfolding unit_length
unit_length_append [] ys = omega arith
unit_length_append (x ∷ xs) ys = let rest = unit_length_append xs ys in omega arith
