-- The word that is inserted, a character at a time: where a text is well-formed from a position on, its characters are the one that is read there and
-- those after it, and at the end there are none. Assumes nothing.
use Prim.Native.Nat.{ℕ, ◌+◌, ◌≤◌}
use mathlib.Core.Path.{◌≡◌, refl, ap, ◌∙◌}
use mathlib.Core.List.{List, [], ◌∷◌}
use mathlib.Core.Option.{Option, none, some, get_or, IsSome}
use lib.ListN.{length, drop}
use Rattle.utf8.specs.Characters.{char, character_at}
use Rattle.utf8.specs.Text.{before, chars_from}
use Rattle.utf8.proofs.Positions.{from_char, from_end, still_chars}
use Rattle.insert.specs.Insert.{characters}

-- a first character and the rest
first_and_rest : (c : ℕ) (rest : Option (List ℕ)) → IsSome rest → get_or (before c rest) [] ≡ c ∷ get_or rest []
first_and_rest c none some_rest = absurd some_rest
first_and_rest c (some cs) some_rest = refl

module _ (s : List ℕ) (at : ℕ) where
  pub no_more : length s ≤ at → characters (drop at s) ≡ []
  unfolding characters chars_from
  no_more past = rw (from_end s at past)

  pub one_more : IsSome (chars_from s at) → (c w u : ℕ) → character_at s at ≡ char c w u → characters (drop at s) ≡ c ∷ characters (drop (at + w) s)
  unfolding characters chars_from
  one_more well_formed c w u read =
      ap (λ (chars : Option (List ℕ)). get_or chars []) (from_char s at c w u read)
      ∙ first_and_rest c (chars_from s (at + w)) (still_chars s at well_formed c w u read)
