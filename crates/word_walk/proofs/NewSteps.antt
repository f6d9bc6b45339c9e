-- What new steps take for all characters of a text: as many nodes as characters, and as many slots, or one less where the root table serves the
-- first character. The text has a first character, so that one less is a number. Assumes nothing.
use Prim.Native.Nat.{ℕ, suc, ◌-◌, ◌≤◌}
use mathlib.Core.Path.{◌≡◌, sym, ap₂, ◌∙◌}
use mathlib.Core.Bool.{Bool, true, false}
use mathlib.Core.List.{List, [], ◌∷◌}
use mathlib.Core.Option.{Option, none, some}
use native.Mathlib.Omega.{arith}
use lib.ListN.{length}
use Rattle.trie.specs.declared.ParentRef.{ParentRef}
use Rattle.trie.specs.Trie.{CharTrie, from_root, new_slots, trie_of}
use Rattle.std.specs.Prelude.{Result, Ok, Err}
use Rattle.utf8.specs.declared.Malformed as Utf8
use Rattle.utf8.specs.Text.{count_of}
use Rattle.walk.specs.declared.Room.TheVariants.{Partly}
use Rattle.walk.specs.Walk.{BeginsWith, new_steps}

-- ---- the count

counted_chars : (ch : ℕ) (chars : Option (List ℕ)) → BeginsWith ch chars → count_of chars ≡ Err (record {}) → ⊥
unfolding BeginsWith
counted_chars ch none begins e = begins
counted_chars ch (some cs) begins e = let z : ◌≡◌ {A = ℕ} 0 1 = cc in omega arith

one_or_more : (ch n : ℕ) (chars : Option (List ℕ)) → BeginsWith ch chars → count_of chars ≡ Ok n → 1 ≤ n
unfolding BeginsWith
one_or_more ch n none begins e = absurd begins
one_or_more ch n (some []) begins e = absurd begins
one_or_more ch n (some (c ∷ cs)) begins e = let counted : suc (length cs) ≡ n = cc in omega arith

module _ (ch : ℕ) (chars : Option (List ℕ)) (begins : BeginsWith ch chars) (x : Result ℕ Utf8.Malformed) (counted : x ≡ count_of chars) where
  pub count_known : x ≡ Err (record {}) → ⊥
  count_known e = counted_chars ch chars begins (sym counted ∙ e)

  pub count_positive : (n : ℕ) → x ≡ Ok n → 1 ≤ n
  count_positive n e = one_or_more ch n chars begins (sym counted ∙ e)

-- ---- the slots

module _ (t : CharTrie) (p : ParentRef) (ch n : ℕ) where
  served : (cs : List ℕ) → BeginsWith ch (some cs) → length cs ≡ n → from_root t p ch ≡ true → Partly (n - 1) n ≡ new_steps t p cs
  unfolding BeginsWith new_steps new_slots
  served [] begins long root = absurd begins
  served (c ∷ cs) begins long root = rw (begins, root) (ap₂ Partly (omega arith) (sym long))

  unserved : (cs : List ℕ) → BeginsWith ch (some cs) → length cs ≡ n → from_root t p ch ≡ false → Partly n n ≡ new_steps t p cs
  unfolding BeginsWith new_steps new_slots
  unserved [] begins long root = absurd begins
  unserved (c ∷ cs) begins long root = rw (begins, root) (ap₂ Partly (sym long) (sym long))

-- as the code tells them apart
module _ (roots : List ℕ) (place : ParentRef) (ch : ℕ) (chars : Option (List ℕ)) (begins : BeginsWith ch chars) (x : Result ℕ Utf8.Malformed)
    (counted : x ≡ count_of chars) (n : ℕ) (is_count : x ≡ Ok n) (slots cs : List ℕ) (all : chars ≡ some cs)
  where
    abbrev t : CharTrie
    t = trie_of roots slots

    first : BeginsWith ch (some cs)
    first = rw all at begins

    long : length cs ≡ n
    long = let counts : Ok (length cs) ≡ Ok n = sym (rw all at counted) ∙ is_count in cc

    module _ (b : Bool) (tested : (slots' : List ℕ) → b ≡ from_root (trie_of roots slots') place ch) where
      pub new_from_root : b ≡ true → Partly (n - 1) n ≡ new_steps t place cs
      new_from_root root = served t place ch n cs first long (sym (tested slots) ∙ root)

      pub new_below : b ≡ false → Partly n n ≡ new_steps t place cs
      new_below root = unserved t place ch n cs first long (sym (tested slots) ∙ root)
