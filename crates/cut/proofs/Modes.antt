-- `tokenize` by `Default` is `cut`.
-- Assumes nothing.
use mathlib.Core.Path.{◌≡◌}
use mathlib.Core.List.{List}
use Prim.Native.Nat.{ℕ}
use Rattle.book.specs.Returns.{Book}
use Rattle.cuts.specs.declared.TokenizeMode.TheVariants.{Default}
use Rattle.cuts.specs.Cuts.{CutAnswer, cut_of, tokenize_of}

module _ (b : Book) (work room : ℕ) (tokens sentence : List ℕ) (a : CutAnswer) where
  pub by_default : a ≡ tokenize_of Default b work room tokens sentence → a ≡ cut_of b work room tokens sentence
  unfolding tokenize_of
  by_default same = same
