-- The record that a lookup finds is one that is used: only a word number below the records used is a record.
-- Assumes nothing.
use mathlib.Core.Path.{◌≡◌, refl}
use mathlib.Core.Bool.{Bool, true, false, cond}
use mathlib.Core.List.{List}
use mathlib.Core.Option.{Option, none, some}
use Prim.Native.Nat.{ℕ, zero, suc, ◌<◌}
use native.Mathlib.Omega.{arith}
use borrow.Author.Tests.{ltb-true}
use lib.Dec.{ltb}
use lib.IntN.{ℤ, pos, negsuc}
use lib.ListN.{get_or}
use Rattle.std.specs.Prelude.{Ok, Err, Some, None}
use Rattle.trie.specs.declared.ParentRef.{ParentRef}
use Rattle.trie.specs.declared.ParentRef.TheVariants.{Root, RootEntry, Slot}
use Rattle.trie.specs.Trie.{CharTrie, no_word, word_number, word_at, walk, get_of, Step, WordNumber, damage}
use Rattle.walk.specs.Walk.{got_of}

by_number : (used n : ℕ) (z : ℤ) → word_number used z ≡ Ok (Some n) → n < used
unfolding word_number
by_number used n (pos k) e = go (ltb k used) refl e
  where
    go : (t : Bool) → ltb k used ≡ t → cond t (Ok (Some k)) (Err damage) ≡ Ok (Some n) → n < used
    go true p q = let s : k ≡ n = cc in let l : k < used = ltb-true k used p in omega arith
    go false p q = let z : ◌≡◌ {A = ℕ} 0 1 = cc in absurd (omega arith)
by_number used n (negsuc zero) e = let z : ◌≡◌ {A = ℕ} 0 1 = cc in absurd (omega arith)
by_number used n (negsuc (suc k)) e = let z : ◌≡◌ {A = ℕ} 0 1 = cc in absurd (omega arith)

-- a record that is read at a place is one in use
pub record_in_use : (used n : ℕ) (t : CharTrie) (p : ParentRef) → word_at used t p ≡ Ok (Some n) → n < used
unfolding word_at
record_in_use used n t Root e = let z : ◌≡◌ {A = ℕ} 0 1 = cc in absurd (omega arith)
record_in_use used n t (RootEntry i) e = by_number used n (get_or t.root_words i no_word) e
record_in_use used n t (Slot i) e = by_number used n (get_or t.words i no_word) e

by_get : (used n : ℕ) (t : CharTrie) (cs : List ℕ) → get_of used t cs ≡ Ok (Some n) → n < used
unfolding get_of
by_get used n t cs e = go (walk t Root cs) refl
  where
    go : (s : Step) → walk t Root cs ≡ s → n < used
    go (Ok (Some p)) q = record_in_use used n t p (rw (q, get_of) at e)
    go (Ok None) q = let z : ◌≡◌ {A = WordNumber} (Ok None) (Ok (Some n)) = rw (q, get_of) at e in let y : ◌≡◌ {A = ℕ} 0 1 = cc in absurd (omega arith)
    go (Err d) q = let z : ◌≡◌ {A = WordNumber} (Err damage) (Ok (Some n)) = rw (q, get_of) at e in let y : ◌≡◌ {A = ℕ} 0 1 = cc in absurd (omega arith)

pub held_used : (used n : ℕ) (t : CharTrie) (o : Option (List ℕ)) → got_of used t o ≡ Ok (Some n) → n < used
unfolding got_of
held_used used n t none e = let z : ◌≡◌ {A = ℕ} 0 1 = cc in absurd (omega arith)
held_used used n t (some cs) e = by_get used n t cs e
