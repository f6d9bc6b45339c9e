-- The store of keys: whole probes, from a key's start slot, and the number of empty slots.
-- With an allowed number of slots every start lies among them, so that `Probes` speaks of whole probes. The store's invariant is `Findable`: each key
-- in use is found by its own probe. A store to the empty slot where a key's probe ended keeps it, and so does one that only sets bits above the low
-- 48; the first takes one empty slot away, the second none.
-- Assumes nothing.
use mathlib.Core.Path.{◌≡◌, refl, sym, ap, ◌∙◌, subst}
use mathlib.Core.Bool.{Bool, true, false, cond, ◌&&◌}
use mathlib.Core.Logic.{◌≢◌}
use mathlib.Core.List.{List, [], ◌∷◌}
use Prim.Native.Nat.{ℕ, zero, suc, ◌+◌, ◌-◌, ◌%◌, ◌^◌, ◌<◌, ◌≤◌}
use native.Mathlib.Nat.{mod-lt, not-suc-le-zero, le_of_suc-le-suc}
use native.Mathlib.Omega.{arith}
use borrow.Author.Tests.{eq-eqb, ne_eqb, eqb-true, eqb-false, leb-true, leb-false}
use lib.Dec.{eqb, leb}
use lib.ListN.{length, get_or, set, length-set, replicate}
use lib.Pow.{pow_pos, pow_mono, shr_lt}
use lib.Seq.{get_or-set_same, get_or-set_other}
use Rattle.std.specs.Prelude.{Ok, Err}
use Rattle.trie.specs.declared.Probe.TheVariants.{Found, Empty}
use Rattle.trie.specs.Trie.{log2, start_slot, probe_of, empty_slot, damage}
use Rattle.trie.specs.SlotCounts.{most_slots, slot_count}
use Rattle.book.specs.Enter.{empty_slots}
use Rattle.built.proofs.Probes.{Inside, inside, found_key, empty_key, first_empty, not_endless, found_kept, stored_found, seen, probe_same}

-- ---- the number of slots

pub both : (a b : Bool) → (a && b) ≡ true → (a ≡ true) × (b ≡ true)
both true b e = (refl, e)
both false b e = let z : ◌≡◌ {A = ℕ} 0 1 = cc in absurd (omega arith)

module _ (slots : ℕ) (count : slot_count slots ≡ true) where
  tests : ((leb 16 slots ≡ true) × (leb slots most_slots ≡ true)) × (eqb slots (2 ^ log2 slots) ≡ true)
  unfolding slot_count
  tests = let outer = both _ _ count in (both _ _ outer.0, outer.1)

  pub slots_least : 16 ≤ slots
  slots_least = leb-true _ _ tests.0.0

  pub slots_most : slots ≤ most_slots
  slots_most = leb-true _ _ tests.0.1

  power : slots ≡ 2 ^ log2 slots
  power = eqb-true _ _ tests.1

  log_most : log2 slots ≤ 22
  log_most = go _ refl
    where
      go : (t : Bool) → leb (log2 slots) 22 ≡ t → log2 slots ≤ 22
      go true t = leb-true _ _ t
      go false t =
          let more : 23 ≤ log2 slots = leb-false _ _ t in
          let large : 2 ^ 23 ≤ 2 ^ log2 slots = pow_mono more in
          let is : slots ≡ 2 ^ log2 slots = power in
          let most = slots_most in
          absurd (omega arith)

  -- every start is a slot
  pub start_inside : (key : ℕ) → start_slot slots key < slots
  unfolding start_slot
  start_inside key =
      let most = log_most in
      let whole : log2 slots + (64 - log2 slots) ≡ 64 = omega arith in
      let below : start_slot slots key < 2 ^ log2 slots = shr_lt (log2 slots) (64 - log2 slots) (rw whole (mod-lt _ (pow_pos 64))) in
      subst (λ (n : ℕ). start_slot slots key < n) (sym power) below

-- ---- empty slots

module _ (k : ℕ) (ks : List ℕ) where
  one_empty : k ≡ 0 → empty_slots (k ∷ ks) ≡ suc (empty_slots ks)
  unfolding empty_slots
  one_empty e = rw (eq-eqb _ _ e)

  not_empty : k ≢ 0 → empty_slots (k ∷ ks) ≡ empty_slots ks
  unfolding empty_slots
  not_empty ne = rw (ne_eqb _ _ ne)

pub empty_most : (ks : List ℕ) → empty_slots ks ≤ length ks
unfolding empty_slots
empty_most [] = omega arith
empty_most (k ∷ ks) = go (eqb k 0) (empty_most ks)
  where
    go : (t : Bool) → empty_slots ks ≤ length ks → cond t (suc (empty_slots ks)) (empty_slots ks) ≤ suc (length ks)
    go true h = omega arith
    go false h = omega arith

-- where the count is not 0 there is one
pub some_empty : (ks : List ℕ) → 0 < empty_slots ks → (e : ℕ) × (e < length ks) × (get_or ks e 0 ≡ 0)
unfolding empty_slots
some_empty [] h = absurd (not-suc-le-zero h)
some_empty (k ∷ ks) h = go _ refl h (some_empty ks)
  where
    go : (t : Bool) → eqb k 0 ≡ t → 0 < cond t (suc (empty_slots ks)) (empty_slots ks) → (0 < empty_slots ks → (e : ℕ) × (e < length ks) × (get_or ks e 0 ≡ 0))
        → (e : ℕ) × (e < suc (length ks)) × (get_or (k ∷ ks) e 0 ≡ 0)
    go true t h rest = (0, omega arith, eqb-true _ _ t)
    go false t h rest = let r = rest h in (suc r.0, omega (arith, r.1), r.2)

-- a store to an empty slot, and one to a slot in use
pub empty_less : (ks : List ℕ) (j v : ℕ) → j < length ks → get_or ks j 0 ≡ 0 → v ≢ 0 → empty_slots (set ks j v) + 1 ≡ empty_slots ks
unfolding empty_slots
empty_less [] j v h z nz = absurd (not-suc-le-zero h)
empty_less (k ∷ ks) zero v h z nz = rw (eq-eqb _ _ z, ne_eqb _ _ nz) (omega arith)
empty_less (k ∷ ks) (suc j) v h z nz = go (eqb k 0) (empty_less ks j v (le_of_suc-le-suc h) z nz)
  where
    go : (t : Bool) → empty_slots (set ks j v) + 1 ≡ empty_slots ks
        → cond t (suc (empty_slots (set ks j v))) (empty_slots (set ks j v)) + 1 ≡ cond t (suc (empty_slots ks)) (empty_slots ks)
    go true e = omega arith
    go false e = e

pub empty_same : (ks : List ℕ) (j v : ℕ) → get_or ks j 0 ≢ 0 → v ≢ 0 → empty_slots (set ks j v) ≡ empty_slots ks
unfolding empty_slots
empty_same [] j v z nz = refl
empty_same (k ∷ ks) zero v z nz = rw (ne_eqb _ _ z, ne_eqb _ _ nz)
empty_same (k ∷ ks) (suc j) v z nz = rw (empty_same ks j v z nz)

-- of a table of zeros all are
pub all_empty : (n : ℕ) → empty_slots (replicate n 0) ≡ n
unfolding empty_slots
all_empty zero = refl
all_empty (suc n) = ap suc (all_empty n)

-- ---- whole probes

-- each key in use is found by its own probe
abbrev pub Findable : List ℕ → Type 0
Findable keys = (i : ℕ) → i < length keys → get_or keys i 0 ≢ 0 → probe_of keys (get_or keys i 0 % 2 ^ 48) ≡ Ok (Found i)

-- every start is a slot
abbrev pub Started : List ℕ → Type 0
Started keys = (key : ℕ) → start_slot (length keys) key < length keys

module _ (keys : List ℕ) (key : ℕ) where
  pub found_low : (i : ℕ) → probe_of keys key ≡ Ok (Found i) → get_or keys i 0 % 2 ^ 48 ≡ key
  unfolding probe_of
  found_low i p = found_key keys key (length keys) _ i p

  pub found_used : key ≢ 0 → (i : ℕ) → probe_of keys key ≡ Ok (Found i) → get_or keys i 0 ≢ 0
  found_used some i p z = some (sym (found_low i p) ∙ ap (λ (k : ℕ). k % 2 ^ 48) z)

  pub empty_zero : (j : ℕ) → probe_of keys key ≡ Ok (Empty j) → get_or keys j 0 ≡ 0
  unfolding probe_of
  empty_zero j p = empty_key keys key (length keys) _ j p

  -- the slot that a new key takes
  pub empty_first : (j : ℕ) → probe_of keys key ≡ Ok (Empty j) → empty_slot keys key ≡ Ok j
  unfolding probe_of empty_slot
  empty_first j p = first_empty keys key (length keys) _ j p

  module _ (started : Started keys) where
    probe_inside : Inside (length keys) (probe_of keys key)
    unfolding probe_of
    probe_inside = inside keys key (length keys) _ (started key)

    pub found_inside : (i : ℕ) → probe_of keys key ≡ Ok (Found i) → i < length keys
    found_inside i p = subst (Inside (length keys)) p probe_inside

    pub empty_inside : (j : ℕ) → probe_of keys key ≡ Ok (Empty j) → j < length keys
    empty_inside j p = subst (Inside (length keys)) p probe_inside

    pub probe_ends : 0 < empty_slots keys → probe_of keys key ≢ Err damage
    unfolding probe_of
    probe_ends h p = let e = some_empty keys h in not_endless keys key _ e.0 (started key) e.1 e.2 p

-- ---- a key stored to the empty slot where its probe ended

module _ (keys : List ℕ) (key j : ℕ) (started : Started keys) (findable : Findable keys) (low : key % 2 ^ 48 ≡ key) (some : key ≢ 0)
    (met : probe_of keys key ≡ Ok (Empty j)) where
  free : get_or keys j 0 ≡ 0
  free = empty_zero keys key j met

  pub free_inside : j < length keys
  free_inside = empty_inside keys key started j met

  key_stored : get_or (set keys j key) j 0 ≡ key
  key_stored = get_or-set_same keys j key 0 free_inside

  key_elsewhere : (i : ℕ) → i ≢ j → get_or (set keys j key) i 0 ≡ get_or keys i 0
  key_elsewhere i ne = get_or-set_other keys j i key 0 ne

  started_kept : Started (set keys j key)
  started_kept k = rw (length-set keys j key) (started k)

  pub probe_kept : (k i : ℕ) → k ≢ 0 → probe_of keys k ≡ Ok (Found i) → probe_of (set keys j key) k ≡ Ok (Found i)
  unfolding probe_of
  probe_kept k i nz p = rw (length-set keys j key) (found_kept keys j key free k nz (length keys) _ i p)

  pub probe_new : probe_of (set keys j key) key ≡ Ok (Found j)
  unfolding probe_of
  probe_new = rw (length-set keys j key) (stored_found keys j key free key low free_inside (length keys) _ met)

  -- any other key that is found now was found before
  pub probe_before : (k i : ℕ) → k ≢ 0 → k ≢ key → probe_of (set keys j key) k ≡ Ok (Found i) → probe_of keys k ≡ Ok (Found i)
  probe_before k i nz ne p =
      let its : get_or (set keys j key) i 0 % 2 ^ 48 ≡ k = found_low (set keys j key) k i p in
      let apart : i ≢ j = λ q. ne (sym its ∙ ap (λ (m : ℕ). get_or (set keys j key) m 0 % 2 ^ 48) q ∙ ap (λ (m : ℕ). m % 2 ^ 48) key_stored ∙ low) in
      let old : get_or (set keys j key) i 0 ≡ get_or keys i 0 = key_elsewhere i apart in
      let within : i < length keys = rw (length-set keys j key) at (found_inside (set keys j key) k started_kept i p) in
      let same : get_or keys i 0 % 2 ^ 48 ≡ k = ap (λ (m : ℕ). m % 2 ^ 48) (sym old) ∙ its in
      let used : get_or keys i 0 ≢ 0 = λ z. nz (sym same ∙ ap (λ (m : ℕ). m % 2 ^ 48) z) in
      rw same at (findable i within used)

  pub findable_kept : ((i : ℕ) → i < length keys → get_or keys i 0 ≢ 0 → 1 ≤ get_or keys i 0 % 2 ^ 48) → Findable (set keys j key)
  findable_kept least i h used = go _ refl
    where
      go : (t : Bool) → eqb i j ≡ t → probe_of (set keys j key) (get_or (set keys j key) i 0 % 2 ^ 48) ≡ Ok (Found i)
      go true t = rw (eqb-true i j t, key_stored, low) probe_new
      go false t =
          let old : get_or (set keys j key) i 0 ≡ get_or keys i 0 = key_elsewhere i (eqb-false i j t) in
          let within : i < length keys = rw (length-set keys j key) at h in
          let before : get_or keys i 0 ≢ 0 = rw old at used in
          let one : 1 ≤ get_or keys i 0 % 2 ^ 48 = least i within before in
          rw old (probe_kept _ i (λ z. omega arith) (findable i within before))

-- ---- bits set above the low 48 of a key in use

module _ (keys : List ℕ) (i stored : ℕ) (low : stored % 2 ^ 48 ≡ get_or keys i 0 % 2 ^ 48) (used : get_or keys i 0 ≢ 0) (some : stored ≢ 0) where
  pub bits_probe : (key : ℕ) → probe_of (set keys i stored) key ≡ probe_of keys key
  unfolding probe_of
  bits_probe key = rw (length-set keys i stored) (probe_same keys i stored low used some key (length keys) _)

  pub bits_low : (s : ℕ) → get_or (set keys i stored) s 0 % 2 ^ 48 ≡ get_or keys s 0 % 2 ^ 48
  bits_low s = (seen keys i stored low used some s).1

  pub bits_used : (s : ℕ) → get_or (set keys i stored) s 0 ≢ 0 → get_or keys s 0 ≢ 0
  bits_used s nz z = nz (eqb-true _ _ ((seen keys i stored low used some s).0 ∙ eq-eqb _ _ z))

  pub bits_findable : Findable keys → Findable (set keys i stored)
  bits_findable findable s h nz = rw (bits_low s) (bits_probe _ ∙ findable s (rw (length-set keys i stored) at h) (bits_used s nz))
