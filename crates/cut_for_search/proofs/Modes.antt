-- `tokenize` by `Search` is `cut_for_search`.
-- Assumes nothing.
use mathlib.Core.Path.{◌≡◌}
use mathlib.Core.List.{List}
use Prim.Native.Nat.{ℕ}
use Rattle.book.specs.Returns.{Book}
use Rattle.cuts.specs.declared.TokenizeMode.TheVariants.{Search}
use Rattle.cuts.specs.Cuts.{CutAnswer, cut_for_search_of, tokenize_of}

module _ (b : Book) (work room : ℕ) (tokens sentence : List ℕ) (a : CutAnswer) where
  pub by_search : a ≡ tokenize_of Search b work room tokens sentence → a ≡ cut_for_search_of b work room tokens sentence
  unfolding tokenize_of
  by_search same = same
