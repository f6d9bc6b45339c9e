-- The class that `classify` is asked for, and the comparison of two answers.
-- Assumes nothing.
use Prim.Native.Nat.{ℕ}
use mathlib.Core.Bool.{Bool, true, false, not, beq}
use mathlib.Core.Path.{◌≡◌, refl, sym}
use Rattle.classes.specs.Blocks.{cut_class, cut_all_class}
use Rattle.runs.specs.declared.CharacterClass.{CharacterClass}
use Rattle.runs.specs.declared.CharacterClass.TheVariants.{Default, CutAll}
use Rattle.runs.specs.Runs.{class_of}

module _ (class : CharacterClass) (c : ℕ) (r : Bool) where
  pub of_cut : class ≡ Default → r ≡ cut_class c → r ≡ class_of class c
  unfolding class_of
  of_cut e test = rw e test

  pub of_cut_all : class ≡ CutAll → r ≡ cut_all_class c → r ≡ class_of class c
  unfolding class_of
  of_cut_all e test = rw e test

-- where `!=` fails the two are the same, and where it holds they are not
pub same_kind : (a b : Bool) → not (beq a b) ≡ false → a ≡ b
same_kind true true e = refl
same_kind true false e = e
same_kind false true e = sym e
same_kind false false e = refl

pub other_kind : (a b : Bool) → not (beq a b) ≡ true → beq b a ≡ false
other_kind true true e = sym e
other_kind true false e = refl
other_kind false true e = refl
other_kind false false e = sym e
