-- New steps. The code's tests and its search for an empty slot are the cases of `new_step`; where it leads is an entry that the test has compared with the
-- root's length, or the slot that was found, which is one of the slots. An extension is one such step and an extension from where it leads.
-- Assumes nothing.
use Prim.Native.Nat.{ℕ, ◌+◌, ◌/◌, ◌<◌}
use mathlib.Core.Path.{◌≡◌, refl, sym, ap, subst, ◌∙◌}
use mathlib.Core.Bool.{Bool, true, false, cond}
use mathlib.Core.List.{List, []}
use lib.IntN.{ℤ}
use lib.ListN.{length}
use Rattle.std.specs.Prelude.{Result, Ok, Err, IsErr}
use Rattle.trie.specs.declared.ParentRef.{ParentRef}
use Rattle.trie.specs.declared.ParentRef.TheVariants.{RootEntry, Slot}
use Rattle.trie.specs.declared.Damaged.{Damaged}
use Rattle.trie.specs.Trie.{CharTrie, keys_of, trie_of, SlotCount, SlotTable, key_of, node_at, from_root, empty_slot, with_bits, with_word, new_root_entry, new_slot, extend}
use Rattle.trie.proofs.Damage.{handed_on}
use Rattle.trie.proofs.Packed.{keys_whole}
use Rattle.trie.proofs.Probes.{empty_slot_is_empty}
use Rattle.walk.specs.Walk.{Inside}
use Rattle.walk.proofs.Places.{only_first, counted, inside_lent}
use Rattle.insert.specs.Insert.{Stepped, stepped, new_step_by, new_step, extend_stepped}
use Rattle.insert.specs.Claims.{ExtendStepsThenExtends}

-- ---- one new step, as the code takes it

-- an empty slot that it ends at is one of the slots
pub empty_below : (slots : List ℕ) (shift : ℕ) → SlotTable (length slots) shift → (key i : ℕ) (r : Result ℕ Damaged) → r ≡ empty_slot (keys_of slots) key → r ≡ Ok i
    → (after : ℕ) → after ≡ length slots → i < after / 2
empty_below slots shift table key i r searched empty after same =
    rw (same, ← keys_whole slots table.whole) (empty_slot_is_empty (keys_of slots) key i (counted [] slots shift table) (sym searched ∙ empty)).0

module _ (t : CharTrie) (p : ParentRef) (ch node : ℕ) (b : Bool) (tested : b ≡ from_root t p ch) where
  pub new_entry_made : (u : CharTrie) → b ≡ true → u ≡ new_root_entry t ch node → stepped (Ok (RootEntry ch)) u ≡ new_step t p ch node
  unfolding new_step
  new_entry_made u e made = rw (← tested, e, made)

  module _ (e : b ≡ false) (parent key : ℕ) (n : parent ≡ node_at t p) (k : key ≡ key_of parent ch) (r : Result ℕ Damaged) (searched : r ≡ empty_slot t.keys key) where
    by_search : new_step_by r t p ch node ≡ new_step t p ch node
    unfolding new_step
    by_search = rw (← tested, e, searched, k, n)

    pub no_empty_slot : (d : Damaged) → r ≡ Err d → (x : Result ParentRef Damaged) → IsErr x → stepped x t ≡ new_step t p ch node
    unfolding new_step_by
    no_empty_slot d none x fails = rw (handed_on x fails d) (rw none at by_search)

    pub new_slot_made : (i : ℕ) (u v : CharTrie) → r ≡ Ok i → u ≡ with_bits t p ch → v ≡ new_slot u i key node → stepped (Ok (Slot i)) v ≡ new_step t p ch node
    unfolding new_step_by
    new_slot_made i u v empty bits made = rw (made, bits, k, n) (rw empty at by_search)

-- ---- where it leads

-- a place of the tables
abbrev IsOf : CharTrie → Result ParentRef Damaged → Type 0
IsOf t (Ok q) = Inside (length t.root_children) (length t.keys) q
IsOf t (Err d) = Unit {0}

module _ (t : CharTrie) (p : ParentRef) (c node : ℕ) (allowed : SlotCount (length t.keys)) where
  slot_leads_inside : (r : Result ℕ Damaged) → empty_slot t.keys (key_of (node_at t p) c) ≡ r → IsOf t (new_step_by r t p c node).step
  unfolding new_step_by Inside
  slot_leads_inside (Ok i) e = (empty_slot_is_empty t.keys (key_of (node_at t p) c) i allowed e).0
  slot_leads_inside (Err d) e = tt

  leads_inside : IsOf t (new_step t p c node).step
  unfolding new_step Inside
  leads_inside = by_root (from_root t p c) refl
    where
      by_root : (b : Bool) → from_root t p c ≡ b
          → IsOf t (cond b (stepped (Ok (RootEntry c)) (new_root_entry t c node))
          (new_step_by (empty_slot t.keys (key_of (node_at t p) c)) t p c node)).step
      by_root true e = (only_first t p c e).1
      by_root false e = slot_leads_inside (empty_slot t.keys (key_of (node_at t p) c)) refl

  new_leads : (r : Result ParentRef Damaged) (u : CharTrie) (q : ParentRef) → stepped r u ≡ new_step t p c node → r ≡ Ok q
      → Inside (length t.root_children) (length t.keys) q
  new_leads r u q made e = subst (IsOf t) (sym (ap (λ (x : Stepped). x.step) made) ∙ e) leads_inside

pub new_inside : (roots slots : List ℕ) (shift : ℕ) → SlotTable (length slots) shift → (p : ParentRef) (c node : ℕ) (r : Result ParentRef Damaged) (u : CharTrie) (q : ParentRef)
    → stepped r u ≡ new_step (trie_of roots slots) p c node → r ≡ Ok q → Inside (length roots) (length slots / 2) q
new_inside roots slots shift table p c node r u q made e =
    inside_lent roots slots shift table q (new_leads (trie_of roots slots) p c node (counted roots slots shift table) r u q made e)

-- ---- a chain of them

pub extend_end : (t : CharTrie) (p : ParentRef) (node : ℕ) (number : ℤ) → extend t p [] node number ≡ with_word t p number
unfolding extend
extend_end t p node number = refl

pub extend_steps_then_extends : ExtendStepsThenExtends
unfolding extend new_step new_step_by extend_stepped
extend_steps_then_extends t p c cs node number = by_root (from_root t p c) (empty_slot t.keys (key_of (node_at t p) c))
  where
    by_root : (b : Bool) (r : Result ℕ Damaged)
        → elim b [
          | true ↦ extend (new_root_entry t c node) (RootEntry c) cs (node + 1) number
          | false ↦ elim r [
            | Ok i ↦ extend (new_slot (with_bits t p c) i (key_of (node_at t p) c) node) (Slot i) cs (node + 1) number
            | Err d ↦ t
          ]
        ]
        ≡ extend_stepped (cond b (stepped (Ok (RootEntry c)) (new_root_entry t c node)) (new_step_by r t p c node)) cs (node + 1) number
    by_root true r = refl
    by_root false (Ok i) = refl
    by_root false (Err d) = refl
