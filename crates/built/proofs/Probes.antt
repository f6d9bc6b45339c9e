-- Probes: where one ends, and what a store to a slot does to it.
-- A probe is taken apart one slot at a time by `view`: the slot has the key, or is empty, or is passed over. What is stored to an empty slot j is
-- met only by probes that came to j, so every key found before is found still, and a probe that ended at j finds the key that is stored there. A
-- store that keeps a slot's low 48 bits, and leaves it in use, changes no probe. Where a slot is empty no probe is endless: from any slot each
-- other is fewer steps ahead than there are slots.
-- Assumes nothing.
use mathlib.Core.Path.{◌≡◌, refl, sym, ap, ◌∙◌}
use mathlib.Core.Bool.{Bool, true, false, cond}
use mathlib.Core.Logic.{◌≢◌, ◌⊎◌, inl, inr}
use mathlib.Core.List.{List, [], ◌∷◌}
use Prim.Native.Nat.{ℕ, zero, suc, ◌+◌, ◌-◌, ◌%◌, ◌^◌, ◌<◌, ◌≤◌}
use native.Mathlib.Omega.{arith}
use borrow.Author.Tests.{eq-eqb, ne_eqb, eqb-true, eqb-false, leb-true, leb-false}
use lib.Dec.{eqb, leb}
use lib.ListN.{length, get_or, set, length-set}
use lib.Seq.{get_or-set_same, get_or-set_other}
use Rattle.trie.specs.declared.Damaged.{Damaged}
use Rattle.std.specs.Prelude.{Ok, Err, Result}
use Rattle.trie.specs.declared.Probe.{Probe}
use Rattle.trie.specs.declared.Probe.TheVariants.{Found, Empty}
use Rattle.trie.specs.Trie.{next_slot, probe_from, empty_from, damage}

-- ---- the next slot

next_by : (slots i : ℕ) (last : Bool) → eqb (i + 1) slots ≡ last → i < slots → cond last 0 (i + 1) < slots
next_by slots i true e h = omega arith
next_by slots i false e h = let ne : i + 1 ≢ slots = eqb-false _ _ e in omega arith

next_inside : (slots i : ℕ) → i < slots → next_slot slots i < slots
unfolding next_slot
next_inside slots i h = next_by slots i _ refl h

-- e is d slots on from i, wrapping
abbrev Ahead : ℕ → ℕ → ℕ → ℕ → Type 0
Ahead slots i e d = (i + d ≡ e) ⊎ (i + d ≡ e + slots)

ahead_by : (slots i e d : ℕ) (last : Bool) → eqb (i + 1) slots ≡ last → i < slots → e < slots → Ahead slots i e (suc d) → Ahead slots (cond last 0 (i + 1)) e d
ahead_by slots i e d true t h k (inl a) = let q : i + 1 ≡ slots = eqb-true _ _ t in absurd (omega arith)
ahead_by slots i e d true t h k (inr a) = let q : i + 1 ≡ slots = eqb-true _ _ t in inl (omega arith)
ahead_by slots i e d false t h k (inl a) = inl (omega arith)
ahead_by slots i e d false t h k (inr a) = inr (omega arith)

next_ahead : (slots i e d : ℕ) → i < slots → e < slots → Ahead slots i e (suc d) → Ahead slots (next_slot slots i) e d
unfolding next_slot
next_ahead slots i e d h k a = ahead_by slots i e d _ refl h k a

none_ahead : (slots i e : ℕ) → i < slots → Ahead slots i e 0 → i ≡ e
none_ahead slots i e h (inl a) = omega arith
none_ahead slots i e h (inr a) = absurd (omega arith)

distance : (slots i e : ℕ) → i < slots → e < slots → (d : ℕ) × (d < slots) × Ahead slots i e d
distance slots i e h k = go _ refl
  where
    go : (t : Bool) → leb i e ≡ t → (d : ℕ) × (d < slots) × Ahead slots i e d
    go true t = let l : i ≤ e = leb-true _ _ t in (e - i, omega arith, inl (omega arith))
    go false t = let l : e < i = leb-false _ _ t in (e + slots - i, omega arith, inr (omega arith))

-- ---- one slot of a probe

module _ (keys : List ℕ) (key n i : ℕ) where
  by_tests : probe_from (suc n) keys key i
      ≡ cond (eqb (get_or keys i 0 % 2 ^ 48) key) (Ok (Found i)) (cond (eqb (get_or keys i 0) 0) (Ok (Empty i)) (probe_from n keys key (next_slot (length keys) i)))
  unfolding probe_from
  by_tests = go (eqb (get_or keys i 0 % 2 ^ 48) key) (eqb (get_or keys i 0) 0) (probe_from n keys key (next_slot (length keys) i))
    where
      go : (a z : Bool) (rest : Result Probe Damaged) → elim a [ true ↦ Ok (Found i) | false ↦ elim z [ true ↦ Ok (Empty i) | false ↦ rest ] ] ≡ cond a (Ok (Found i)) (cond z (Ok (Empty i)) rest)
      go true z rest = refl
      go false true rest = refl
      go false false rest = refl

  at_key : get_or keys i 0 % 2 ^ 48 ≡ key → probe_from (suc n) keys key i ≡ Ok (Found i)
  at_key e = by_tests ∙ (rw (eq-eqb _ _ e))

  at_empty : get_or keys i 0 % 2 ^ 48 ≢ key → get_or keys i 0 ≡ 0 → probe_from (suc n) keys key i ≡ Ok (Empty i)
  at_empty ne z = by_tests ∙ (rw (ne_eqb _ _ ne, eq-eqb _ _ z))

  pass : get_or keys i 0 % 2 ^ 48 ≢ key → get_or keys i 0 ≢ 0 → probe_from (suc n) keys key i ≡ probe_from n keys key (next_slot (length keys) i)
  pass ne nz = by_tests ∙ (rw (ne_eqb _ _ ne, ne_eqb _ _ nz))

  data View : Result Probe Damaged → Type 0 where
    its_key : get_or keys i 0 % 2 ^ 48 ≡ key → View (Ok (Found i))
    its_empty : get_or keys i 0 % 2 ^ 48 ≢ key → get_or keys i 0 ≡ 0 → View (Ok (Empty i))
    passed : get_or keys i 0 % 2 ^ 48 ≢ key → get_or keys i 0 ≢ 0 → View (probe_from n keys key (next_slot (length keys) i))

  view : View (probe_from (suc n) keys key i)
  view = go _ _ refl refl
    where
      go : (a z : Bool) → eqb (get_or keys i 0 % 2 ^ 48) key ≡ a → eqb (get_or keys i 0) 0 ≡ z → View (probe_from (suc n) keys key i)
      go true z ea ez = rw (at_key (eqb-true _ _ ea)) (its_key (eqb-true _ _ ea))
      go false true ea ez = rw (at_empty (eqb-false _ _ ea) (eqb-true _ _ ez)) (its_empty (eqb-false _ _ ea) (eqb-true _ _ ez))
      go false false ea ez = rw (pass (eqb-false _ _ ea) (eqb-false _ _ ez)) (passed (eqb-false _ _ ea) (eqb-false _ _ ez))

-- the search for an empty slot: it stops at one, and goes past any other
stop_at : (keys : List ℕ) (n i : ℕ) → get_or keys i 0 ≡ 0 → empty_from (suc n) keys i ≡ Ok i
unfolding empty_from
stop_at keys n i z = rw (eq-eqb _ _ z, empty_from)

go_past : (keys : List ℕ) (n i : ℕ) → get_or keys i 0 ≢ 0 → empty_from (suc n) keys i ≡ empty_from n keys (next_slot (length keys) i)
unfolding empty_from
go_past keys n i nz = rw (ne_eqb _ _ nz, empty_from)

-- no slot probed: endless, so neither found nor empty
unprobed_found : (keys : List ℕ) (key i j : ℕ) {A : Type 0} → probe_from zero keys key i ≡ Ok (Found j) → A
unfolding probe_from
unprobed_found keys key i j p = let z : ◌≡◌ {A = ℕ} 0 1 = cc in absurd (omega arith)

unprobed_empty : (keys : List ℕ) (key i j : ℕ) {A : Type 0} → probe_from zero keys key i ≡ Ok (Empty j) → A
unfolding probe_from
unprobed_empty keys key i j p = let z : ◌≡◌ {A = ℕ} 0 1 = cc in absurd (omega arith)

-- ---- where a probe ends

abbrev pub Inside : ℕ → Result Probe Damaged → Type 0
Inside slots (Ok (Found j)) = j < slots
Inside slots (Ok (Empty j)) = j < slots
Inside slots (Err d) = Unit {0}

module _ (keys : List ℕ) (key : ℕ) where
  pub inside : (n i : ℕ) → i < length keys → Inside (length keys) (probe_from n keys key i)
  unfolding probe_from
  inside zero i h = tt
  inside (suc n) i h = go _ (view keys key n i) (inside n (next_slot (length keys) i) (next_inside (length keys) i h))
    where
      go : (r : Result Probe Damaged) → View keys key n i r → Inside (length keys) (probe_from n keys key (next_slot (length keys) i)) → Inside (length keys) r
      go r (its_key e) rest = h
      go r (its_empty ne z) rest = h
      go r (passed ne nz) rest = rest

  pub found_key : (n i j : ℕ) → probe_from n keys key i ≡ Ok (Found j) → get_or keys j 0 % 2 ^ 48 ≡ key
  found_key zero i j p = unprobed_found keys key i j p
  found_key (suc n) i j p = go _ (view keys key n i) (found_key n (next_slot (length keys) i) j) p
    where
      go : (r : Result Probe Damaged) → View keys key n i r → (probe_from n keys key (next_slot (length keys) i) ≡ Ok (Found j) → get_or keys j 0 % 2 ^ 48 ≡ key)
          → r ≡ Ok (Found j) → get_or keys j 0 % 2 ^ 48 ≡ key
      go r (its_key e) rest q = let same : i ≡ j = cc in rw (← same) e
      go r (its_empty ne z) rest q = let z : ◌≡◌ {A = ℕ} 0 1 = cc in absurd (omega arith)
      go r (passed ne nz) rest q = rest q

  pub empty_key : (n i j : ℕ) → probe_from n keys key i ≡ Ok (Empty j) → get_or keys j 0 ≡ 0
  empty_key zero i j p = unprobed_empty keys key i j p
  empty_key (suc n) i j p = go _ (view keys key n i) (empty_key n (next_slot (length keys) i) j) p
    where
      go : (r : Result Probe Damaged) → View keys key n i r → (probe_from n keys key (next_slot (length keys) i) ≡ Ok (Empty j) → get_or keys j 0 ≡ 0) → r ≡ Ok (Empty j) → get_or keys j 0 ≡ 0
      go r (its_key e) rest q = let z : ◌≡◌ {A = ℕ} 0 1 = cc in absurd (omega arith)
      go r (its_empty ne z) rest q = let same : i ≡ j = cc in rw (← same) z
      go r (passed ne nz) rest q = rest q

  -- it is the first empty slot
  pub first_empty : (n i j : ℕ) → probe_from n keys key i ≡ Ok (Empty j) → empty_from n keys i ≡ Ok j
  first_empty zero i j p = unprobed_empty keys key i j p
  first_empty (suc n) i j p = go _ (view keys key n i) (first_empty n (next_slot (length keys) i) j) p
    where
      go : (r : Result Probe Damaged) → View keys key n i r → (probe_from n keys key (next_slot (length keys) i) ≡ Ok (Empty j)
          → empty_from n keys (next_slot (length keys) i) ≡ Ok j)
          → r ≡ Ok (Empty j) → empty_from (suc n) keys i ≡ Ok j
      go r (its_key e) rest q = let z : ◌≡◌ {A = ℕ} 0 1 = cc in absurd (omega arith)
      go r (its_empty ne z) rest q = (let same : i ≡ j = cc in stop_at keys n i z ∙ ap (λ (x : ℕ). Ok x) same)
      go r (passed ne nz) rest q = go_past keys n i nz ∙ rest q

  -- an endless probe met no empty slot
  endless_met : (n i : ℕ) → i < length keys → probe_from n keys key i ≡ Err damage → (e d : ℕ) → e < length keys → d < n → Ahead (length keys) i e d
      → get_or keys e 0 ≢ 0
  endless_met zero i h p e d k l a = absurd (omega arith)
  endless_met (suc n) i h p e d k l a = go _ (view keys key n i)
      (λ q d l a. endless_met n (next_slot (length keys) i) (next_inside (length keys) i h) q e d k l a) p d l a
    where
      go : (r : Result Probe Damaged) → View keys key n i r
          → (probe_from n keys key (next_slot (length keys) i) ≡ Err damage → (d : ℕ) → d < n → Ahead (length keys) (next_slot (length keys) i) e d
          → get_or keys e 0 ≢ 0)
          → r ≡ Err damage → (d : ℕ) → d < suc n → Ahead (length keys) i e d → get_or keys e 0 ≢ 0
      go r (its_key _) rest q d l a = let z : ◌≡◌ {A = ℕ} 0 1 = cc in absurd (omega arith)
      go r (its_empty _ _) rest q d l a = let z : ◌≡◌ {A = ℕ} 0 1 = cc in absurd (omega arith)
      go r (passed ne nz) rest q zero l a = rw (← none_ahead (length keys) i e h a) nz
      go r (passed ne nz) rest q (suc d) l a = rest q d (omega arith) (next_ahead (length keys) i e d h k a)

  pub not_endless : (i e : ℕ) → i < length keys → e < length keys → get_or keys e 0 ≡ 0 → probe_from (length keys) keys key i ≢ Err damage
  not_endless i e h k z p = let far = distance (length keys) i e h k in endless_met (length keys) i h p e far.0 k far.1 far.2 z

-- ---- a store to an empty slot

module _ (keys : List ℕ) (j stored : ℕ) (free : get_or keys j 0 ≡ 0) where
  elsewhere : (i : ℕ) → get_or keys i 0 ≢ 0 → get_or (set keys j stored) i 0 ≡ get_or keys i 0
  elsewhere i nz = get_or-set_other keys j i stored 0 (λ q. nz (ap (λ (k : ℕ). get_or keys k 0) q ∙ free))

  -- a slot passed over before is passed over after
  pass_still : (key n i : ℕ) → get_or keys i 0 % 2 ^ 48 ≢ key → get_or keys i 0 ≢ 0
      → probe_from (suc n) (set keys j stored) key i ≡ probe_from n (set keys j stored) key (next_slot (length keys) i)
  pass_still key n i ne nz =
      let same = elsewhere i nz in
      pass (set keys j stored) key n i (rw same ne) (rw same nz) ∙ (rw (length-set keys j stored))

  -- a key found before is found after; 0 is no key
  pub found_kept : (key : ℕ) → key ≢ 0 → (n i s : ℕ) → probe_from n keys key i ≡ Ok (Found s) → probe_from n (set keys j stored) key i ≡ Ok (Found s)
  found_kept key some zero i s p = unprobed_found keys key i s p
  found_kept key some (suc n) i s p = go _ (view keys key n i) (found_kept key some n (next_slot (length keys) i) s) p
    where
      go : (r : Result Probe Damaged) → View keys key n i r
          → (probe_from n keys key (next_slot (length keys) i) ≡ Ok (Found s) → probe_from n (set keys j stored) key (next_slot (length keys) i) ≡ Ok (Found s))
          → r ≡ Ok (Found s) → probe_from (suc n) (set keys j stored) key i ≡ Ok (Found s)
      go r (its_key e) rest q =
          let nz : get_or keys i 0 ≢ 0 = λ z. some (sym e ∙ ap (λ (k : ℕ). k % 2 ^ 48) z) in
          at_key (set keys j stored) key n i (rw (elsewhere i nz) e) ∙ q
      go r (its_empty _ _) rest q = let z : ◌≡◌ {A = ℕ} 0 1 = cc in absurd (omega arith)
      go r (passed ne nz) rest q = pass_still key n i ne nz ∙ rest q

  -- a probe that ended at the empty slot finds what is stored there
  pub stored_found : (key : ℕ) → stored % 2 ^ 48 ≡ key → j < length keys → (n i : ℕ) → probe_from n keys key i ≡ Ok (Empty j)
      → probe_from n (set keys j stored) key i ≡ Ok (Found j)
  stored_found key low l zero i p = unprobed_empty keys key i j p
  stored_found key low l (suc n) i p = go _ (view keys key n i) (stored_found key low l n (next_slot (length keys) i)) p
    where
      here : i ≡ j → get_or (set keys j stored) i 0 % 2 ^ 48 ≡ key
      here q = ap (λ (k : ℕ). get_or (set keys j stored) k 0 % 2 ^ 48) q ∙ ap (λ (k : ℕ). k % 2 ^ 48) (get_or-set_same keys j stored 0 l) ∙ low

      go : (r : Result Probe Damaged) → View keys key n i r
          → (probe_from n keys key (next_slot (length keys) i) ≡ Ok (Empty j) → probe_from n (set keys j stored) key (next_slot (length keys) i) ≡ Ok (Found j))
          → r ≡ Ok (Empty j) → probe_from (suc n) (set keys j stored) key i ≡ Ok (Found j)
      go r (its_key e) rest q = let z : ◌≡◌ {A = ℕ} 0 1 = cc in absurd (omega arith)
      go r (its_empty ne z) rest q = let same : i ≡ j = cc in at_key (set keys j stored) key n i (here same) ∙ ap (λ (x : ℕ). Ok (Found x)) same
      go r (passed ne nz) rest q = pass_still key n i ne nz ∙ rest q

-- ---- any store, element by element

-- a store of a value that stands in a relation to the one it replaces
pub set_keeps : (R : ℕ → ℕ → Type 0) → ((x : ℕ) → R x x) → (l : List ℕ) (j v : ℕ) → R v (get_or l j 0) → (i : ℕ) → R (get_or (set l j v) i 0) (get_or l i 0)
set_keeps R same [] j v h i = same _
set_keeps R same (x ∷ l) zero v h zero = h
set_keeps R same (x ∷ l) zero v h (suc i) = same _
set_keeps R same (x ∷ l) (suc j) v h zero = same _
set_keeps R same (x ∷ l) (suc j) v h (suc i) = set_keeps R same l j v h i

-- ---- a store that keeps a slot's low bits and leaves it in use

module _ (keys : List ℕ) (j stored : ℕ) (low : stored % 2 ^ 48 ≡ get_or keys j 0 % 2 ^ 48) (nz : get_or keys j 0 ≢ 0) (some : stored ≢ 0) where
  -- what a probe sees of each slot
  abbrev Seen : ℕ → ℕ → Type 0
  Seen x y = (eqb x 0 ≡ eqb y 0) × (x % 2 ^ 48 ≡ y % 2 ^ 48)

  pub seen : (i : ℕ) → Seen (get_or (set keys j stored) i 0) (get_or keys i 0)
  seen i = set_keeps Seen (λ x. (refl, refl)) keys j stored (ne_eqb _ _ some ∙ sym (ne_eqb _ _ nz), low) i

  pub probe_same : (key n i : ℕ) → probe_from n (set keys j stored) key i ≡ probe_from n keys key i
  unfolding probe_from
  probe_same key zero i = refl
  probe_same key (suc n) i =
      let s = seen i in
      by_tests (set keys j stored) key n i ∙ (rw (s.0, s.1, length-set keys j stored, probe_same key n (next_slot (length keys) i)))
      ∙ sym (by_tests keys key n i)
