-- The sentence's blocks: document 01, "The sentence's blocks: `SplitByCharacterClass`".
-- Assumes nothing.
use Rattle.std.specs.Prelude.{ℕ, Bool, true, false, List, [], ◌∷◌}
use Rattle.std.specs.Bool.{beq}

-- a run of characters that are all of the class, or all not
pub record Block : Type 0 where
  pub matched : Bool
  pub chars : List ℕ

-- a character before the first block if it is of its kind, or in a block of its own
abbrev pub onto : Bool → ℕ → List Block → List Block
onto m c [] = record { matched = m; chars = c ∷ [] } ∷ []
onto m c (b ∷ bs) =
    elim (beq m b.matched) [
      | true ↦ record { matched = m; chars = c ∷ b.chars } ∷ bs
      | false ↦ record { matched = m; chars = c ∷ [] } ∷ b ∷ bs
    ]

-- "Maximal runs of one class"
unfoldable pub blocks_of : (ℕ → Bool) → List ℕ → List Block
blocks_of class [] = []
blocks_of class (c ∷ cs) = onto (class c) c (blocks_of class cs)
