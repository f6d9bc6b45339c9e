-- Insertion keeps the lengths of all tables: each store is a `set`, which keeps a list's length, and the rest is a chain of stores.
-- Assumes nothing.
use Prim.Native.Nat.{ℕ, ◌+◌}
use mathlib.Core.Path.{refl, ◌∙◌}
use mathlib.Core.Bool.{Bool, true, false, cond}
use mathlib.Core.List.{List, [], ◌∷◌}
use lib.IntN.{ℤ}
use lib.ListN.{length-set}
use Rattle.std.specs.Prelude.{Result, Ok, Err, Some, None}
use Rattle.trie.specs.declared.ParentRef.{ParentRef}
use Rattle.trie.specs.declared.ParentRef.TheVariants.{Root, RootEntry, Slot}
use Rattle.trie.specs.declared.Damaged.{Damaged}
use Rattle.trie.specs.Trie.{CharTrie, key_of, node_at, from_root, open_step, with_bits, with_word, new_root_entry, new_slot, empty_slot, extend, insert, Step}
use Rattle.insert.specs.Insert.{Stepped, stepped, new_step_by, new_step, extend_stepped}
use Rattle.insert.specs.Claims.{SameLengths, InsertKeepsLengths}
use Rattle.insert.proofs.NewSteps.{extend_end, extend_steps_then_extends}

pub same_lengths : (t : CharTrie) → SameLengths t t
same_lengths t = record { root_children = refl; root_words = refl; keys = refl; children = refl; words = refl }

pub then_same : {t u v : CharTrie} → SameLengths t u → SameLengths u v → SameLengths t v
then_same a b = record {
  root_children = a.root_children ∙ b.root_children;
  root_words = a.root_words ∙ b.root_words;
  keys = a.keys ∙ b.keys;
  children = a.children ∙ b.children;
  words = a.words ∙ b.words;
}

-- ---- each store

pub bits_keep : (t : CharTrie) (p : ParentRef) (ch : ℕ) → SameLengths (with_bits t p ch) t
unfolding with_bits
bits_keep t Root ch = same_lengths t
bits_keep t (RootEntry i) ch = search length-set
bits_keep t (Slot i) ch = search length-set

pub word_keeps : (t : CharTrie) (p : ParentRef) (number : ℤ) → SameLengths (with_word t p number) t
unfolding with_word
word_keeps t Root number = same_lengths t
word_keeps t (RootEntry i) number = search length-set
word_keeps t (Slot i) number = search length-set

entry_keeps : (t : CharTrie) (ch node : ℕ) → SameLengths (new_root_entry t ch node) t
entry_keeps t ch node = search length-set

slot_keeps : (t : CharTrie) (i key node : ℕ) → SameLengths (new_slot t i key node) t
slot_keeps t i key node = search length-set

-- ---- chains of stores

by_search : (r : Result ℕ Damaged) (t : CharTrie) (p : ParentRef) (c node : ℕ) → SameLengths (new_step_by r t p c node).trie t
unfolding new_step_by
by_search (Ok i) t p c node = then_same (slot_keeps (with_bits t p c) i (key_of (node_at t p) c) node) (bits_keep t p c)
by_search (Err d) t p c node = same_lengths t

pub new_step_keeps : (t : CharTrie) (p : ParentRef) (c node : ℕ) → SameLengths (new_step t p c node).trie t
unfolding new_step
new_step_keeps t p c node = by_root (from_root t p c)
  where
    by_root : (b : Bool) → SameLengths (cond b (stepped (Ok (RootEntry c)) (new_root_entry t c node))
        (new_step_by (empty_slot t.keys (key_of (node_at t p) c)) t p c node)).trie t
    by_root true = entry_keeps t c node
    by_root false = by_search (empty_slot t.keys (key_of (node_at t p) c)) t p c node

after_step : (r : Stepped) (cs : List ℕ) (node : ℕ) (number : ℤ) → ((u : CharTrie) (q : ParentRef) → SameLengths (extend u q cs node number) u)
    → SameLengths (extend_stepped r cs node number) r.trie
unfolding extend_stepped
after_step r cs node number rest = by_step r.step
  where
    by_step : (q : Result ParentRef Damaged) → SameLengths (elim q [ Ok p ↦ extend r.trie p cs node number | Err d ↦ r.trie ]) r.trie
    by_step (Ok p) = rest r.trie p
    by_step (Err d) = same_lengths r.trie

pub extend_keeps : (t : CharTrie) (p : ParentRef) (cs : List ℕ) (node : ℕ) (number : ℤ) → SameLengths (extend t p cs node number) t
extend_keeps t p [] node number = rw (extend_end t p node number) (word_keeps t p number)
extend_keeps t p (c ∷ cs) node number =
    rw (extend_steps_then_extends t p c cs node number)
    (then_same (after_step (new_step t p c node) cs (node + 1) number (λ u q. extend_keeps u q cs (node + 1) number)) (new_step_keeps t p c node))

pub insert_keeps_lengths : InsertKeepsLengths
unfolding insert
insert_keeps_lengths t p [] node number = word_keeps t p number
insert_keeps_lengths t p (c ∷ cs) node number = by_step (open_step t p c) (λ u q. insert_keeps_lengths u q cs node number)
  where
    by_step : (r : Step) → ((u : CharTrie) (q : ParentRef) → SameLengths (insert u q cs node number) u)
        → SameLengths (elim r [ Ok (Some q) ↦ insert (with_bits t p c) q cs node number | Ok None ↦ extend t p (c ∷ cs) node number | Err d ↦ t ]) t
    by_step (Ok (Some q)) rest = then_same (rest (with_bits t p c) q) (bits_keep t p c)
    by_step (Ok None) rest = extend_keeps t p (c ∷ cs) node number
    by_step (Err d) rest = same_lengths t
