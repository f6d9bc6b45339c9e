-- The first block of a text: characters of one kind, up to where the text ends or goes on with a character of the other kind.
-- By induction over the run: its last character stands in a block of its own, and each one before it joins the block behind it.
-- Assumes nothing.
use Prim.Native.Nat.{ℕ, ◌<◌}
use mathlib.Core.Bool.{Bool, true, false, beq}
use mathlib.Core.List.{List, [], ◌∷◌, ◌++◌}
use mathlib.Core.Path.{◌≡◌, refl, ap, ◌∙◌}
use native.Mathlib.Nat.{not-suc-le-zero}
use native.Mathlib.Omega.{arith}
use lib.ListN.{length}
use Rattle.cuts.specs.Blocks.{Block, onto, blocks_of}

module _ (class : ℕ → Bool) (matched : Bool) where
  -- all characters are of the class, or all are not
  unfoldable pub OfKind : List ℕ → Type 0
  OfKind [] = Unit {0}
  OfKind (c ∷ cs) = (class c ≡ matched) × OfKind cs

  -- a run ends before this text: it is empty, or begins with a character of the other kind
  unfoldable pub EndsBefore : List ℕ → Type 0
  EndsBefore [] = Unit {0}
  EndsBefore (c ∷ cs) = beq matched (class c) ≡ false

  -- ---- how such a run grows, and where it ends

  pub none_of_kind : OfKind []
  unfolding OfKind
  none_of_kind = tt

  pub one_more_of_kind : (run : List ℕ) (c : ℕ) → OfKind run → class c ≡ matched → OfKind (run ++ (c ∷ []))
  unfolding OfKind
  one_more_of_kind [] c kind same = (same, tt)
  one_more_of_kind (x ∷ run) c kind same = (kind.0, one_more_of_kind run c kind.1 same)

  pub ends_at_end : EndsBefore []
  unfolding EndsBefore
  ends_at_end = tt

  pub ends_at_other : (c : ℕ) (rest : List ℕ) → beq matched (class c) ≡ false → EndsBefore (c ∷ rest)
  unfolding EndsBefore
  ends_at_other c rest other = other

  -- ---- a character in front of blocks

  same_itself : (m : Bool) → beq m m ≡ true
  same_itself true = refl
  same_itself false = refl

  -- a character joins a block of its kind
  joins : (c : ℕ) (run : List ℕ) (rest : List Block)
      → onto matched c (record { matched = matched; chars = run } ∷ rest) ≡ record { matched = matched; chars = c ∷ run } ∷ rest
  joins c run rest = rw (onto, same_itself matched)

  -- and stands before blocks whose first character is of the other kind
  stands_before : (c d : ℕ) (m : Bool) (rest : List Block)
      → beq matched m ≡ false
      → onto matched c (onto m d rest) ≡ record { matched = matched; chars = c ∷ [] } ∷ onto m d rest
  stands_before c d m [] other = rw (onto, other)
  stands_before c d m (b ∷ rest) other = go (beq m b.matched) refl
    where
      go : (t : Bool)
          → beq m b.matched ≡ t
          → onto matched c (onto m d (b ∷ rest)) ≡ record { matched = matched; chars = c ∷ [] } ∷ onto m d (b ∷ rest)
      go true e = rw (onto, e, other)
      go false e = rw (onto, e, other)

  -- the run's last character, in a block of its own
  last_of_run : (c : ℕ) (rest : List ℕ)
      → EndsBefore rest
      → onto matched c (blocks_of class rest) ≡ record { matched = matched; chars = c ∷ [] } ∷ blocks_of class rest
  unfolding blocks_of EndsBefore
  last_of_run c [] ends = refl
  last_of_run c (d ∷ rest) ends = stands_before c d (class d) (blocks_of class rest) ends

  -- the run is the first block, and the other blocks are those of the rest
  pub first_block : (run rest : List ℕ)
      → 0 < length run
      → OfKind run
      → EndsBefore rest
      → blocks_of class (run ++ rest) ≡ record { matched = matched; chars = run } ∷ blocks_of class rest
  unfolding blocks_of OfKind
  first_block [] rest some_chars kind ends = absurd (not-suc-le-zero some_chars)
  first_block (c ∷ []) rest some_chars kind ends = rw kind.0 (last_of_run c rest ends)
  first_block (c ∷ d ∷ run) rest some_chars kind ends =
      rw kind.0 (ap (onto matched c) (first_block (d ∷ run) rest (omega arith) kind.1 ends) ∙ joins c (d ∷ run) (blocks_of class rest))
