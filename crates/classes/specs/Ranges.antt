-- Ranges of code points, by which document 01 lists its classes of characters. Assumes nothing.
use Rattle.std.specs.Prelude.{Bool, false, ◌&&◌, ◌||◌, List, [], ◌∷◌, ℕ, leb}

-- the code points from `from` to `to`, with both
pub record Range : Type 0 where
  pub from : ℕ
  pub to : ℕ

-- 01's U+4E00..9FFF is `range 0x4E00 0x9FFF`
abbrev pub range : ℕ → ℕ → Range
range a b = record { from = a; to = b }

-- a code point that 01 lists by itself
abbrev pub code_point : ℕ → Range
code_point a = range a a

-- whether c is in the range
abbrev pub in_range : Range → ℕ → Bool
in_range r c = leb r.from c && leb c r.to

-- whether c is in one of the ranges
unfoldable pub in_ranges : List Range → ℕ → Bool
in_ranges [] c = false
in_ranges (r ∷ rs) c = in_range r c || in_ranges rs c
