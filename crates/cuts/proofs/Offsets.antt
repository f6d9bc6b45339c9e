-- A block's places in a slice, each one number: its byte offset is the remainder by 2^32 and its UTF-16 offset the quotient, since no byte offset of a
-- sentence reaches 2^32. Assumes nothing.
use Prim.Native.Nat.{ℕ, ◌+◌, ◌/◌, ◌%◌, ◌^◌, ◌≤◌, ◌<◌}
use mathlib.Core.List.{List}
use mathlib.Core.Path.{◌≡◌, ap, ◌∙◌, sym}
use native.Mathlib.Omega.{arith}
use lib.ListN.{length, get_or, take, drop, take-append-drop}
use Rattle.utf8.specs.Encoding.{byte_length}
use Rattle.utf8.specs.Utf16.{unit_length}
use Rattle.utf8.proofs.Positions.{byte_length_append}
use Rattle.cuts.specs.Tokens.{Base}
use Rattle.cuts.specs.Slices.{packed, Placed}

-- the two parts of a place
pub low_part : (b u : ℕ) → b < 2 ^ 32 → packed b u % 2 ^ 32 ≡ b
low_part b u fits = omega arith

pub high_part : (b u : ℕ) → b < 2 ^ 32 → packed b u / 2 ^ 32 ≡ u
high_part b u fits = omega arith

module _ {at : Base} {base : ℕ} {chars offsets : List ℕ} (known : Placed at base chars offsets) (i : ℕ) (inside : i ≤ length chars) where
  fits : at.bytes + byte_length (take i chars) < 2 ^ 32
  fits = omega (arith, known.short, ap byte_length (sym (take-append-drop i chars)) ∙ byte_length_append (take i chars) (drop i chars))

  pub bytes_at : get_or offsets i 0 % 2 ^ 32 ≡ at.bytes + byte_length (take i chars)
  bytes_at = ap (λ (p : ℕ). p % 2 ^ 32) (known.from i inside) ∙ low_part _ _ fits

  pub units_at : get_or offsets i 0 / 2 ^ 32 ≡ at.units + unit_length (take i chars)
  units_at = ap (λ (p : ℕ). p / 2 ^ 32) (known.from i inside) ∙ high_part _ _ fits
