-- Probes, a slot at a time. With slots left, a probe ends at a slot with its key, else at an empty one, else goes on from the next slot with one
-- slot less; with none left it is endless. The same of the search for an empty slot. The slot at which either ends is one of the slots, since
-- the start is one and the next one is, and it passed the test that ended the probe.
-- Assumes nothing.
use Prim.Native.Nat.{ℕ, zero, suc, ◌+◌, ◌-◌, ◌*◌, ◌/◌, ◌%◌, ◌^◌, ◌≤◌, ◌<◌}
use mathlib.Core.Path.{◌≡◌, refl, subst}
use mathlib.Core.Bool.{Bool, true, false}
use mathlib.Core.List.{List}
use native.Mathlib.Omega.{arith}
use borrow.Author.Tests.{eq-eqb, ne_eqb, eqb-true}
use lib.Dec.{eqb}
use lib.ListN.{length, get_or}
use Rattle.std.specs.Prelude.{Result, Ok, Err}
use Rattle.trie.specs.declared.Probe.{Probe}
use Rattle.trie.specs.declared.Probe.TheVariants.{Found, Empty}
use Rattle.trie.specs.declared.Damaged.{Damaged}
use Rattle.trie.specs.Trie.{SlotCount, SlotTable, keys_of, start_slot, next_slot, probe_from, probe_of, empty_from, empty_slot, damage}
use Rattle.trie.specs.Claims.{FoundHasKey, EmptyHasNoKey, EmptySlotIsEmpty}
use Rattle.trie.proofs.SlotCounts.{slot_left, shift_below, starts_at_slot, next_below}
use Rattle.trie.proofs.Packed.{keys_whole, key_at}

-- ---- the start

pub shift_fits : (numbers shift : ℕ) → SlotTable numbers shift → shift < 64
shift_fits numbers shift table = shift_below (numbers / 2) table.slot_count shift table.shifted

pub slots_left : (numbers shift : ℕ) → SlotTable numbers shift → 0 < numbers / 2
slots_left numbers shift table = slot_left (numbers / 2) table.slot_count

module _ (slots : List ℕ) (key shift i : ℕ) (table : SlotTable (length slots) shift) (hashed : i ≡ key * 0x9E3779B97F4A7C15 % 2 ^ 64 / 2 ^ shift) where
  start : i ≡ start_slot (length slots / 2) key
  unfolding start_slot
  start = rw (← table.shifted) hashed

  pub start_below : i < length slots / 2
  start_below = rw start (starts_at_slot (length slots / 2) key table.slot_count)

  pub probe_start : probe_from (length slots / 2) (keys_of slots) key i ≡ probe_of (keys_of slots) key
  unfolding probe_of
  probe_start = rw (keys_whole slots table.whole, ← start)

  pub empty_start : empty_from (length slots / 2) (keys_of slots) i ≡ empty_slot (keys_of slots) key
  unfolding empty_slot
  empty_start = rw (keys_whole slots table.whole, ← start)

pub next_is_slot : (n i next : ℕ) → next ≡ next_slot n i → i < n → next < n
next_is_slot n i next e h = rw e (next_below n i h)

-- the numbers of slot i
pub key_inside : (numbers i : ℕ) → i < numbers / 2 → 2 * i < numbers
key_inside numbers i h = omega arith

pub link_inside : (numbers i : ℕ) → i < numbers / 2 → 2 * i + 1 < numbers
link_inside numbers i h = omega arith

-- ---- a turn of a probe with n slots left, carried to the answer r of the whole probe

module _ (slots : List ℕ) (shift : ℕ) (table : SlotTable (length slots) shift) (key i n : ℕ) (r : Result Probe Damaged)
    (same : probe_from n (keys_of slots) key i ≡ r) (some : 0 < n) where
  turn : probe_from (suc (n - 1)) (keys_of slots) key i ≡ r
  turn = subst (λ (m : ℕ). probe_from m (keys_of slots) key i ≡ r) (omega arith) same

  stored : get_or (keys_of slots) i 0 ≡ get_or slots (2 * i) 0
  stored = key_at slots i

  pub probe_found : get_or slots (2 * i) 0 % 2 ^ 48 ≡ key → Ok (Found i) ≡ r
  unfolding probe_from
  probe_found has = rw (stored, eq-eqb _ _ has, probe_from) at turn

  module _ (other : get_or slots (2 * i) 0 % 2 ^ 48 ≡ key → ⊥) where
    pub probe_empty : get_or slots (2 * i) 0 ≡ 0 → Ok (Empty i) ≡ r
    unfolding probe_from
    probe_empty empty = rw (stored, ne_eqb _ _ other, stored, eq-eqb _ _ empty, probe_from) at turn

    module _ (taken : get_or slots (2 * i) 0 ≡ 0 → ⊥) where
      onward : probe_from (n - 1) (keys_of slots) key (next_slot (length slots / 2) i) ≡ r
      unfolding probe_from
      onward = rw (stored, ne_eqb _ _ other, stored, ne_eqb _ _ taken, probe_from, keys_whole slots table.whole) at turn

      pub probe_on : (next : ℕ) → next ≡ next_slot (length slots / 2) i → probe_from (n - 1) (keys_of slots) key next ≡ r
      probe_on next e = rw e onward

      pub probe_endless : n - 1 ≡ 0 → Err damage ≡ r
      unfolding probe_from
      probe_endless none_left = rw none_left at onward

-- ---- the same of a search for an empty slot

module _ (slots : List ℕ) (shift : ℕ) (table : SlotTable (length slots) shift) (i n : ℕ) (r : Result ℕ Damaged) (same : empty_from n (keys_of slots) i ≡ r) where
  pub empty_endless : n ≤ 0 → Err damage ≡ r
  unfolding empty_from
  empty_endless none = let none_left : n ≡ 0 = omega arith in rw none_left at same

  module _ (left : ℕ) (some : n ≡ suc left) where
    turn_empty : empty_from (suc left) (keys_of slots) i ≡ r
    turn_empty = rw some at same

    pub empty_found : get_or slots (2 * i) 0 ≡ 0 → Ok i ≡ r
    unfolding empty_from
    empty_found empty = rw (key_at slots i, eq-eqb _ _ empty, empty_from) at turn_empty

    pub empty_on : (next : ℕ) → next ≡ next_slot (length slots / 2) i → (get_or slots (2 * i) 0 ≡ 0 → ⊥) → empty_from left (keys_of slots) next ≡ r
    unfolding empty_from
    empty_on next e taken = rw e (rw (key_at slots i, ne_eqb _ _ taken, empty_from, keys_whole slots table.whole) at turn_empty)

-- ---- where probes end

-- an answer names a slot, which has the key or is empty as the answer says
abbrev Ends : List ℕ → ℕ → Result Probe Damaged → Type 0
Ends keys key (Ok (Found i)) = (i < length keys) × (get_or keys i 0 % 2 ^ 48 ≡ key)
Ends keys key (Ok (Empty i)) = (i < length keys) × (get_or keys i 0 ≡ 0)
Ends keys key (Err d) = Unit {0}

-- and so does the answer of a search for an empty slot
abbrev EndsEmpty : List ℕ → Result ℕ Damaged → Type 0
EndsEmpty keys (Ok i) = (i < length keys) × (get_or keys i 0 ≡ 0)
EndsEmpty keys (Err d) = Unit {0}

module _ (keys : List ℕ) (key i : ℕ) (inside : i < length keys) (rest : Result Probe Damaged) (later : Ends keys key rest) where
  empty_or : (empty : Bool) → eqb (get_or keys i 0) 0 ≡ empty → Ends keys key (elim empty [ true ↦ Ok (Empty i) | false ↦ rest ])
  empty_or true e = (inside, eqb-true _ _ e)
  empty_or false e = later

  found_or : (found : Bool) → eqb (get_or keys i 0 % 2 ^ 48) key ≡ found
      → Ends keys key (elim found [ true ↦ Ok (Found i) | false ↦ elim (eqb (get_or keys i 0) 0) [ true ↦ Ok (Empty i) | false ↦ rest ] ])
  found_or true e = (inside, eqb-true _ _ e)
  found_or false e = empty_or (eqb (get_or keys i 0) 0) refl

slot_or : (keys : List ℕ) (i : ℕ) → i < length keys → (rest : Result ℕ Damaged) → EndsEmpty keys rest → (empty : Bool) → eqb (get_or keys i 0) 0 ≡ empty
    → EndsEmpty keys (elim empty [ true ↦ Ok i | false ↦ rest ])
slot_or keys i inside rest later true e = (inside, eqb-true _ _ e)
slot_or keys i inside rest later false e = later

module _ (keys : List ℕ) (key : ℕ) where
  probe_ends : (n i : ℕ) → i < length keys → Ends keys key (probe_from n keys key i)
  unfolding probe_from
  probe_ends zero i inside = tt
  probe_ends (suc n) i inside = found_or keys key i inside _ (probe_ends n (next_slot (length keys) i) (next_below _ i inside))
      (eqb (get_or keys i 0 % 2 ^ 48) key) refl

  empty_ends : (n i : ℕ) → i < length keys → EndsEmpty keys (empty_from n keys i)
  unfolding empty_from
  empty_ends zero i inside = tt
  empty_ends (suc n) i inside = slot_or keys i inside _ (empty_ends n (next_slot (length keys) i) (next_below _ i inside)) (eqb (get_or keys i 0) 0) refl

  probe_ends_well : SlotCount (length keys) → Ends keys key (probe_of keys key)
  unfolding probe_of
  probe_ends_well allowed = probe_ends (length keys) (start_slot (length keys) key) (starts_at_slot (length keys) key allowed)

pub found_has_key : FoundHasKey
found_has_key keys key i allowed e = rw e at (probe_ends_well keys key allowed)

pub empty_has_no_key : EmptyHasNoKey
empty_has_no_key keys key i allowed e = rw e at (probe_ends_well keys key allowed)

pub empty_slot_is_empty : EmptySlotIsEmpty
unfolding empty_slot
empty_slot_is_empty keys key i allowed e = rw e at (empty_ends keys key (length keys) (start_slot (length keys) key) (starts_at_slot (length keys) key allowed))
