-- The characters of a block are all of its kind: each joins the block after it only where that is of its own kind.
-- Assumes nothing.
use mathlib.Core.Path.{◌≡◌, refl, sym, ap, subst, ◌∙◌}
use mathlib.Core.Bool.{Bool, true, false, beq}
use mathlib.Core.List.{List, [], ◌∷◌}
use Prim.Native.Nat.{ℕ, zero, suc, ◌<◌}
use native.Mathlib.Omega.{arith}
use lib.ListN.{length, get_or, take}
use lib.Seq.{length-take-le, get_or-take}
use Rattle.cuts.specs.Blocks.{Block, onto, blocks_of}
use Rattle.runs.specs.declared.Run.{Run}
use Rattle.runs.specs.Runs.{text_from, Recorded}

module _ (class : ℕ → Bool) where
  abbrev AllOf : Bool → List ℕ → Type 0
  AllOf m [] = Unit {0}
  AllOf m (c ∷ cs) = (class c ≡ m) × AllOf m cs

  abbrev FirstOf : List Block → Type 0
  FirstOf [] = Unit {0}
  FirstOf (b ∷ bs) = AllOf b.matched b.chars

  same_kind : (m k : Bool) → beq m k ≡ true → k ≡ m
  same_kind true true e = refl
  same_kind false false e = refl
  same_kind true false e = e
  same_kind false true e = sym e

  one_more : (c : ℕ) (bs : List Block) → FirstOf bs → FirstOf (onto (class c) c bs)
  one_more c [] all = (refl, tt)
  one_more c (b ∷ bs) all = by (beq (class c) b.matched) refl
    where
      by : (t : Bool) → beq (class c) b.matched ≡ t
          → FirstOf (elim t [
            | true ↦ record { matched = class c; chars = c ∷ b.chars } ∷ bs
            | false ↦ record { matched = class c; chars = c ∷ [] } ∷ b ∷ bs
          ])
      by true e = (refl, subst (λ (m : Bool). AllOf m b.chars) (same_kind (class c) b.matched e) all)
      by false e = (refl, tt)

  first_of : (cs : List ℕ) → FirstOf (blocks_of class cs)
  unfolding blocks_of
  first_of [] = tt
  first_of (c ∷ cs) = one_more c (blocks_of class cs) (first_of cs)

  each_of : (m : Bool) (cs : List ℕ) → AllOf m cs → (i : ℕ) → i < length cs → class (get_or cs i 0) ≡ m
  each_of m [] all i h = absurd (omega arith)
  each_of m (c ∷ cs) all zero h = all.0
  each_of m (c ∷ cs) all (suc i) h = each_of m cs all.1 i (omega arith)

-- a run that is recorded
pub one_kind : (class : ℕ → Bool) (s : List ℕ) (at from : ℕ) (r : Run) (chars offsets : List ℕ) → Recorded class s at from r chars offsets
    → (i : ℕ) → i < r.chars → class (get_or chars i 0) ≡ r.matched
one_kind class s at from r chars offsets run i h =
    sym (ap class (get_or-take r.chars chars i 0 h))
    ∙ each_of class r.matched (take r.chars chars) (subst (FirstOf class) run.block (first_of class (text_from s at))) i
    (omega (arith, length-take-le r.chars chars (omega (arith, run.fits))))
