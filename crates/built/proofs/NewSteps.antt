-- A new root entry, and a new slot: each makes a `Grown` tree, and keeps the sizes and the store.
-- A new slot's key is stored where its probe ended, so the keys found before are found still and only the new one more (`Keys`). Its parent is known and
-- its character below 2^21, so it is the key of no other step. A new root entry changes no slot. Both give the node the next number, which has 24 bits.
-- Assumes nothing.
use mathlib.Core.Path.{◌≡◌, refl, sym, ap, ◌∙◌}
use mathlib.Core.Bool.{Bool, true, false}
use mathlib.Core.Logic.{◌≢◌, ◌⊎◌, inl, inr}
use mathlib.Core.List.{List, ◌∷◌}
use Prim.Native.Nat.{ℕ, ◌+◌, ◌*◌, ◌%◌, ◌^◌, ◌<◌, ◌≤◌}
use native.Mathlib.Nat.{mod-eq_of_lt}
use native.Mathlib.Omega.{arith}
use borrow.Author.Tests.{eqb-true, eqb-false}
use lib.Dec.{eqb}
use lib.ListN.{length, get_or, set, length-set}
use lib.Seq.{get_or-set_same, get_or-set_other}
use Rattle.std.specs.Prelude.{Ok, Some, None}
use Rattle.trie.specs.declared.ParentRef.{ParentRef}
use Rattle.trie.specs.declared.ParentRef.TheVariants.{Root, RootEntry, Slot}
use Rattle.trie.specs.declared.Probe.TheVariants.{Found, Empty}
use Rattle.trie.specs.Trie.{CharTrie, no_word, word_number, key_of, probe_of, node_at, from_root, open_step, bits_at, word_at, new_root_entry, new_slot}
use Rattle.book.specs.Returns.{Book}
use Rattle.built.specs.Ledger.{Entry}
use Rattle.built.specs.Built.{Sizes, Store, Tables, update_at}
use Rattle.built.proofs.Keys.{empty_less, found_low, found_inside, found_used, empty_zero, free_inside, probe_kept, probe_new, probe_before}
use Rattle.built.proofs.Keys.{findable_kept}
use Rattle.built.proofs.Steps.{key_some, Leads, by_root, by_slot, leads_of, step_of, from_root_inside, from_root_is_root, InUse, started, next_small}
use Rattle.built.proofs.Steps.{node_of_place, place_in_use}
use Rattle.built.proofs.Growth.{Grown, grown_tree, grown_words}

-- no slot has a parent that is still to come
no_child_yet : {t : CharTrie} {next slots : ℕ} → Sizes t → Store t next slots → (d i : ℕ) → probe_of t.keys (key_of next d) ≢ Ok (Found i)
unfolding key_of
no_child_yet {t = t} {next = next} sizes store d i f =
    let key = key_of next d in
    let its : get_or t.keys i 0 % 2 ^ 48 ≡ key = found_low t.keys key i f in
    let most = store.keys_most i (found_inside t.keys key (started sizes) i f) (found_used t.keys key (key_some next d) i f) in
    omega arith

-- ---- a step of the tree, to be made from a known node

module _ {b : Book} {ledger : List Entry} {t : CharTrie} {next slots : ℕ} {name : ℕ → List ℕ} {place : ℕ → ParentRef}
    (tables : Tables b ledger t next slots name place)
    (parent c : ℕ) (known : parent < next) (within : c < 2 ^ 21) (absent : open_step t (place parent) c ≡ Ok None)
    (bits : bits_at t (place parent) c ≡ true) where
  filled : (n : ℕ) → n < next → InUse t (place n)
  filled n h = place_in_use tables.tree tables.sizes n h

  node_is : (n : ℕ) → n < next → node_at t (place n) ≡ n
  node_is n h = node_of_place tables.tree n h

  small : next < 2 ^ 24
  small = next_small tables.sizes tables.store

  low_24 : next % 2 ^ 24 ≡ next
  low_24 = mod-eq_of_lt small

  -- a step that leads to q led there before, or is the new one
  abbrev OldOrNew : ℕ → ℕ → ParentRef → ParentRef → Type 0
  OldOrNew n d q new = (open_step t (place n) d ≡ Ok (Some q)) ⊎ ((n ≡ parent) × (d ≡ c) × (q ≡ new))

  -- ---- among the slots

  module _ (off : from_root t (place parent) c ≡ false) (j : ℕ) (met : probe_of t.keys (key_of parent c) ≡ Ok (Empty j)) where
    abbrev key : ℕ
    key = key_of parent c

    abbrev with_slot : CharTrie
    with_slot = new_slot t j key next

    low_48 : key % 2 ^ 48 ≡ key
    unfolding key_of
    low_48 = let h = small in mod-eq_of_lt (omega arith)

    some_key : key ≢ 0
    some_key = key_some parent c

    inside : j < length t.keys
    inside = free_inside t.keys key j (started tables.sizes) tables.store.found low_48 some_key met

    -- the probes after the store, by those before it
    kept_key : (k i : ℕ) → k ≢ 0 → probe_of t.keys k ≡ Ok (Found i) → probe_of (set t.keys j key) k ≡ Ok (Found i)
    kept_key = probe_kept t.keys key j (started tables.sizes) tables.store.found low_48 some_key met

    new_key : probe_of (set t.keys j key) key ≡ Ok (Found j)
    new_key = probe_new t.keys key j (started tables.sizes) tables.store.found low_48 some_key met

    old_key : (k i : ℕ) → k ≢ 0 → k ≢ key → probe_of (set t.keys j key) k ≡ Ok (Found i) → probe_of t.keys k ≡ Ok (Found i)
    old_key = probe_before t.keys key j (started tables.sizes) tables.store.found low_48 some_key met

    another : (i : ℕ) → InUse t (Slot i) → i ≢ j
    another i used e = used.1 (ap (λ (k : ℕ). get_or t.keys k 0) e ∙ empty_zero t.keys key j met)

    slot_node : (p : ParentRef) → InUse t p → node_at with_slot p ≡ node_at t p
    unfolding node_at
    slot_node Root used = refl
    slot_node (RootEntry i) used = refl
    slot_node (Slot i) used = let same = get_or-set_other t.children j i next 0 (another i used) in rw same

    slot_node_is : (n : ℕ) → n < next → node_at with_slot (place n) ≡ n
    slot_node_is n h = slot_node (place n) (filled n h) ∙ node_is n h

    slot_from_root : (p : ParentRef) (d : ℕ) → from_root with_slot p d ≡ from_root t p d
    unfolding from_root
    slot_from_root Root d = refl
    slot_from_root (RootEntry i) d = refl
    slot_from_root (Slot i) d = refl

    slot_kept : (p : ParentRef) (d : ℕ) (q : ParentRef) → InUse t p → Leads t p d q → Leads with_slot p d q
    slot_kept p d q used (by_root e nz) = by_root (slot_from_root p d ∙ e) nz
    slot_kept p d q used (by_slot {i} e f) = by_slot {i = i} (slot_from_root p d ∙ e) (rw (slot_node p used) (kept_key _ i (key_some (node_at t p) d) f))

    slot_new : Leads with_slot (place parent) c (Slot j)
    slot_new = by_slot {i = j} (slot_from_root (place parent) c ∙ off) (rw (slot_node_is parent known) new_key)

    -- two keys are one only where parent and character are
    slot_back_by : (n d i : ℕ) → n < next → d < 2 ^ 21 → from_root t (place n) d ≡ false
        → probe_of (set t.keys j key) (key_of n d) ≡ Ok (Found i) → (same : Bool) → eqb key (key_of n d) ≡ same
        → OldOrNew n d (Slot i) (Slot j)
    unfolding key_of
    slot_back_by n d i h l o f true e =
        let one : key_of parent c ≡ key_of n d = eqb-true _ _ e in
        let nodes : n ≡ parent = omega arith in
        let characters : d ≡ c = omega arith in
        let there : probe_of (set t.keys j key) (key_of parent c) ≡ Ok (Found i) = ap (probe_of (set t.keys j key)) one ∙ f in
        let its = new_key in
        let slot : i ≡ j = cc in
        inr (nodes, characters, ap Slot slot)
    slot_back_by n d i h l o f false e =
        let apart : key_of n d ≢ key_of parent c = λ q. eqb-false _ _ e (sym q) in
        inl (step_of t (place n) d (Slot i) (by_slot o (rw (node_is n h) (old_key (key_of n d) i (key_some n d) apart f))))

    slot_back : (n d : ℕ) (q : ParentRef) → n < next → d < 2 ^ 21 → Leads with_slot (place n) d q → OldOrNew n d q (Slot j)
    slot_back n d q h l (by_root e nz) = inl (step_of t (place n) d (RootEntry d) (by_root (sym (slot_from_root (place n) d) ∙ e) nz))
    slot_back n d q h l (by_slot {i} e f) = slot_back_by n d i h l (sym (slot_from_root (place n) d) ∙ e) (rw (slot_node_is n h) at f) _ refl

    slot_node_new : node_at with_slot (Slot j) ≡ next
    unfolding node_at
    slot_node_new = let its = get_or-set_same t.children j next 0 (rw tables.sizes.children inside) in rw its low_24

    slot_childless : (d : ℕ) (q : ParentRef) → d < 2 ^ 21 → Leads with_slot (Slot j) d q → ⊥
    unfolding from_root key_of
    slot_childless d q l (by_root e nz) = let z : ◌≡◌ {A = ℕ} 0 1 = cc in omega arith
    slot_childless d q l (by_slot {i} e f) =
        let there : probe_of (set t.keys j key) (key_of next d) ≡ Ok (Found i) = rw slot_node_new at f in
        let apart : key_of next d ≢ key_of parent c = λ q. omega arith in
        no_child_yet tables.sizes tables.store d i (old_key (key_of next d) i (key_some next d) apart there)

    slot_bits : (p : ParentRef) (d : ℕ) → InUse t p → bits_at t p d ≡ true → bits_at with_slot p d ≡ true
    unfolding bits_at
    slot_bits Root d used h = h
    slot_bits (RootEntry i) d used h = h
    slot_bits (Slot i) d used h =
        let child = get_or-set_other t.children j i next 0 (another i used) in
        let its_key = get_or-set_other t.keys j i key 0 (another i used) in
        rw (child, its_key) h

    slot_word : (used : ℕ) (p : ParentRef) → InUse t p → word_at used with_slot p ≡ word_at used t p
    unfolding word_at
    slot_word used Root u = refl
    slot_word used (RootEntry i) u = refl
    slot_word used (Slot i) u = ap (word_number used) (get_or-set_other t.words j i no_word no_word (another i u))

    slot_word_new : (used : ℕ) → word_at used with_slot (Slot j) ≡ Ok None
    unfolding word_at word_number
    slot_word_new used = ap (word_number used) (get_or-set_same t.words j no_word no_word (rw tables.sizes.words inside))

    slot_grown : Grown t with_slot next place parent c (Slot j)
    slot_grown = record {
      known = known;
      within = within;
      absent = absent;
      step_new = step_of with_slot (place parent) c (Slot j) slot_new;
      node_new = slot_node_new;
      word_new = slot_word_new;
      childless = λ d q l e. slot_childless d q l (leads_of with_slot (Slot j) d q e);
      node_kept = λ n h. slot_node (place n) (filled n h);
      step_kept = λ n d q h e. step_of with_slot (place n) d q (slot_kept (place n) d q (filled n h) (leads_of t (place n) d q e));
      step_back = λ n d q h l e. slot_back n d q h l (leads_of with_slot (place n) d q e);
      bits_there = bits;
      bits_kept = λ n d h e. slot_bits (place n) d (filled n h) e;
      word_kept = λ used n h. slot_word used (place n) (filled n h);
    }

    slot_sizes : Sizes with_slot
    slot_sizes =
        let s = tables.sizes in
        let long = length-set t.keys j key in
        record {
          roots_least = s.roots_least;
          roots_most = s.roots_most;
          root_words_lem = s.root_words_lem;
          slots = rw long s.slots;
          children = length-set t.children j next ∙ s.children ∙ sym long;
          words = length-set t.words j no_word ∙ s.words ∙ sym long;
        }

    -- the new key is at least 1, and its parent's number is below the next
    abbrev KeyWithin : ℕ → Type 0
    KeyWithin stored = (1 ≤ stored % 2 ^ 48) × (stored % 2 ^ 48 ≤ (next + 1) * 2 ^ 21)

    slot_keys : (i : ℕ) → i < length t.keys → get_or (set t.keys j key) i 0 ≢ 0 → KeyWithin (get_or (set t.keys j key) i 0)
    unfolding key_of
    slot_keys i h used = go _ refl
      where
        go : (e : Bool) → eqb i j ≡ e → KeyWithin (get_or (set t.keys j key) i 0)
        go true e =
            let its : get_or (set t.keys j key) j 0 ≡ key = get_or-set_same t.keys j key 0 inside in
            rw (eqb-true i j e, its, low_48) (omega arith, omega arith)
        go false e =
            let old : get_or (set t.keys j key) i 0 ≡ get_or t.keys i 0 = get_or-set_other t.keys j i key 0 (eqb-false i j e) in
            let least = tables.store.keys_least i h (rw old at used) in
            let most = tables.store.keys_most i h (rw old at used) in
            rw old (least, omega arith)

    slot_store : (slots + 1) * 8 ≤ length t.keys * 6 → Store with_slot (next + 1) (slots + 1)
    slot_store room =
        let s = tables.store in
        let long = length-set t.keys j key in
        let fewer = empty_less t.keys j key inside (empty_zero t.keys key j met) some_key in
        let inside_before : (i : ℕ) → i < length (set t.keys j key) → i < length t.keys = λ i h. rw long at h in
        record {
          found = findable_kept t.keys key j (started tables.sizes) s.found low_48 some_key met s.keys_least;
          keys_least = λ i h used. (slot_keys i (inside_before i h) used).0;
          keys_most = λ i h used. (slot_keys i (inside_before i h) used).1;
          slot_count_lem = rw long (omega (arith, s.slot_count_lem));
          node_count = omega (arith, s.node_count);
          load = rw long room;
        }

    pub slot_tables : (slots + 1) * 8 ≤ length t.keys * 6
        → Tables b ledger with_slot (next + 1) (slots + 1) (update_at name next (c ∷ name parent)) (update_at place next (Slot j))
    slot_tables room = record {
      sizes = slot_sizes;
      tree = grown_tree tables.tree slot_grown;
      store = slot_store room;
      words = grown_words tables.tree slot_grown tables.words;
    }

    pub slot_is_leaf : (d : ℕ) (q : ParentRef) → d < 2 ^ 21 → open_step with_slot (Slot j) d ≢ Ok (Some q)
    slot_is_leaf = slot_grown.childless

  -- ---- in the root table

  module _ (on : from_root t (place parent) c ≡ true) (free : get_or t.root_children c 0 ≡ 0) where
    abbrev with_entry : CharTrie
    with_entry = new_root_entry t c next

    entry_inside : c < length t.root_children
    entry_inside = from_root_inside t (place parent) c on

    parent_is_root : parent ≡ 0
    unfolding node_at
    parent_is_root = sym (node_is parent known) ∙ ap (node_at t) (from_root_is_root t (place parent) c on)

    some_next : next ≢ 0
    some_next e = omega arith

    another_entry : (i : ℕ) → get_or t.root_children i 0 ≢ 0 → i ≢ c
    another_entry i used e = used (ap (λ (k : ℕ). get_or t.root_children k 0) e ∙ free)

    entry_node : (p : ParentRef) → InUse t p → node_at with_entry p ≡ node_at t p
    unfolding node_at
    entry_node Root used = refl
    entry_node (RootEntry i) used = let same = get_or-set_other t.root_children c i next 0 (another_entry i used.1) in rw same
    entry_node (Slot i) used = refl

    entry_from_root : (p : ParentRef) (d : ℕ) → from_root with_entry p d ≡ from_root t p d
    unfolding from_root
    entry_from_root Root d = rw (length-set t.root_children c next)
    entry_from_root (RootEntry i) d = refl
    entry_from_root (Slot i) d = refl

    entry_kept : (p : ParentRef) (d : ℕ) (q : ParentRef) → InUse t p → Leads t p d q → Leads with_entry p d q
    entry_kept p d q used (by_root e nz) = let same = get_or-set_other t.root_children c d next 0 (another_entry d nz) in
        by_root (entry_from_root p d ∙ e) (rw same nz)
    entry_kept p d q used (by_slot {i} e f) = by_slot {i = i} (entry_from_root p d ∙ e) (rw (entry_node p used) f)

    entry_new : Leads with_entry (place parent) c (RootEntry c)
    entry_new = let its = get_or-set_same t.root_children c next 0 entry_inside in by_root (entry_from_root (place parent) c ∙ on) (rw its some_next)

    entry_back_by : (n d : ℕ) → n < next → from_root t (place n) d ≡ true → get_or (set t.root_children c next) d 0 ≢ 0 → (same : Bool) → eqb d c ≡ same
        → OldOrNew n d (RootEntry d) (RootEntry c)
    unfolding node_at
    entry_back_by n d h o nz true e =
        let one : d ≡ c = eqb-true d c e in
        let root : n ≡ 0 = sym (node_is n h) ∙ ap (node_at t) (from_root_is_root t (place n) d o) in
        inr (root ∙ sym parent_is_root, one, ap RootEntry one)
    entry_back_by n d h o nz false e =
        let same = get_or-set_other t.root_children c d next 0 (eqb-false d c e) in
        inl (step_of t (place n) d (RootEntry d) (by_root o (rw same at nz)))

    entry_back : (n d : ℕ) (q : ParentRef) → n < next → d < 2 ^ 21 → Leads with_entry (place n) d q → OldOrNew n d q (RootEntry c)
    entry_back n d q h l (by_root e nz) = entry_back_by n d h (sym (entry_from_root (place n) d) ∙ e) nz _ refl
    entry_back n d q h l (by_slot {i} e f) =
        inl (step_of t (place n) d (Slot i) (by_slot (sym (entry_from_root (place n) d) ∙ e) (rw (entry_node (place n) (filled n h)) at f)))

    entry_node_new : node_at with_entry (RootEntry c) ≡ next
    unfolding node_at
    entry_node_new = let its = get_or-set_same t.root_children c next 0 entry_inside in rw its low_24

    entry_childless : (d : ℕ) (q : ParentRef) → d < 2 ^ 21 → Leads with_entry (RootEntry c) d q → ⊥
    unfolding from_root
    entry_childless d q l (by_root e nz) = let z : ◌≡◌ {A = ℕ} 0 1 = cc in omega arith
    entry_childless d q l (by_slot {i} e f) = no_child_yet tables.sizes tables.store d i (rw entry_node_new at f)

    entry_bits : (p : ParentRef) (d : ℕ) → InUse t p → bits_at t p d ≡ true → bits_at with_entry p d ≡ true
    unfolding bits_at
    entry_bits Root d used h = h
    entry_bits (RootEntry i) d used h = let same = get_or-set_other t.root_children c i next 0 (another_entry i used.1) in rw same h
    entry_bits (Slot i) d used h = h

    entry_word : (used : ℕ) (p : ParentRef) → InUse t p → word_at used with_entry p ≡ word_at used t p
    unfolding word_at
    entry_word used Root u = refl
    entry_word used (RootEntry i) u = ap (word_number used) (get_or-set_other t.root_words c i no_word no_word (another_entry i u.1))
    entry_word used (Slot i) u = refl

    entry_word_new : (used : ℕ) → word_at used with_entry (RootEntry c) ≡ Ok None
    unfolding word_at word_number
    entry_word_new used = ap (word_number used) (get_or-set_same t.root_words c no_word no_word (rw tables.sizes.root_words_lem entry_inside))

    entry_grown : Grown t with_entry next place parent c (RootEntry c)
    entry_grown = record {
      known = known;
      within = within;
      absent = absent;
      step_new = step_of with_entry (place parent) c (RootEntry c) entry_new;
      node_new = entry_node_new;
      word_new = entry_word_new;
      childless = λ d q l e. entry_childless d q l (leads_of with_entry (RootEntry c) d q e);
      node_kept = λ n h. entry_node (place n) (filled n h);
      step_kept = λ n d q h e. step_of with_entry (place n) d q (entry_kept (place n) d q (filled n h) (leads_of t (place n) d q e));
      step_back = λ n d q h l e. entry_back n d q h l (leads_of with_entry (place n) d q e);
      bits_there = bits;
      bits_kept = λ n d h e. entry_bits (place n) d (filled n h) e;
      word_kept = λ used n h. entry_word used (place n) (filled n h);
    }

    entry_sizes : Sizes with_entry
    entry_sizes =
        let s = tables.sizes in
        let long = length-set t.root_children c next in
        record {
          roots_least = rw long s.roots_least;
          roots_most = rw long s.roots_most;
          root_words_lem = length-set t.root_words c no_word ∙ s.root_words_lem ∙ sym long;
          slots = s.slots;
          children = s.children;
          words = s.words;
        }

    entry_store : Store with_entry (next + 1) slots
    entry_store =
        let s = tables.store in
        let long = length-set t.root_children c next in
        let fewer = empty_less t.root_children c next entry_inside free some_next in
        record {
          found = s.found;
          keys_least = s.keys_least;
          keys_most = λ i h used. let most = s.keys_most i h used in omega arith;
          slot_count_lem = s.slot_count_lem;
          node_count = rw long (omega (arith, s.node_count));
          load = s.load;
        }

    pub entry_tables : Tables b ledger with_entry (next + 1) slots (update_at name next (c ∷ name parent)) (update_at place next (RootEntry c))
    entry_tables = record {
      sizes = entry_sizes;
      tree = grown_tree tables.tree entry_grown;
      store = entry_store;
      words = grown_words tables.tree entry_grown tables.words;
    }

    pub entry_is_leaf : (d : ℕ) (q : ParentRef) → d < 2 ^ 21 → open_step with_entry (RootEntry c) d ≢ Ok (Some q)
    entry_is_leaf = entry_grown.childless
