-- A token as the code writes it, from the places of its start and of its end.
-- Assumes nothing.
use Rattle.std.specs.Prelude.{ℕ, ◌+◌, ◌/◌, ◌%◌, ◌^◌, List, get_or}
use Rattle.cuts.specs.declared.Token.{Token}

-- of the characters from x up to y of a block, which stands behind so many characters; a place has its byte offset below and its UTF-16 offset above
unfoldable pub token_from : ℕ → ℕ → ℕ → List ℕ → Token
token_from base x y offsets = record {
  chars = record { 0 = base + x; 1 = base + y };
  bytes = record { 0 = get_or offsets x 0 % 2 ^ 32; 1 = get_or offsets y 0 % 2 ^ 32 };
  utf16 = record { 0 = get_or offsets x 0 / 2 ^ 32; 1 = get_or offsets y 0 / 2 ^ 32 };
}
