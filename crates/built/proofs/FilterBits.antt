-- Filter bits: the bits of a character set at a place in use leave the invariant as it was, with the same nodes and the same ledger.
-- Bits stand above the low 48 of a key and the low 24 of a child, and a number with a bit set is not 0. So every probe, every node and every step that
-- tests no bits is the same; a bit that was set stays; and the bits of the character are there afterwards.
-- Assumes nothing.
use mathlib.Core.Path.{◌≡◌, refl, sym, ◌∙◌}
use mathlib.Core.Bool.{true}
use mathlib.Core.Logic.{◌≢◌}
use mathlib.Core.List.{List}
use Prim.Native.Nat.{ℕ, ◌%◌, ◌^◌, ◌<◌, ◌≤◌}
use native.Mathlib.Omega.{arith}
use borrow.Author.Tests.{ne_eqb}
use lib.Dec.{eqb}
use lib.ListN.{length, get_or, set, length-set}
use Rattle.arith.specs.Bits.{has_bit, with_bit}
use Rattle.arith.proofs.Bits.{keeps_low_bits, keeps_set_bits, is_never_zero}
use Rattle.trie.specs.declared.ParentRef.{ParentRef}
use Rattle.trie.specs.declared.ParentRef.TheVariants.{Root, RootEntry, Slot}
use Rattle.trie.specs.Trie.{CharTrie, key_of, probe_of, key_bit, child_bit, node_at, from_root, open_step, bits_at, word_at, with_bits}
use Rattle.trie.proofs.Steps.{bit_there}
use Rattle.book.specs.Returns.{Book}
use Rattle.built.specs.Ledger.{Entry}
use Rattle.built.specs.Built.{Sizes, Tree, Store, Words, Tables}
use Rattle.built.proofs.Probes.{set_keeps}
use Rattle.built.proofs.Keys.{both, empty_same, bits_probe, bits_low, bits_used, bits_findable}
use Rattle.built.proofs.Steps.{step_tests, InUse}

-- ---- tries that the tree cannot tell apart

pub record Alike (t t' : CharTrie) : Type 0 where
  pub node_same : (p : ParentRef) → node_at t' p ≡ node_at t p
  pub step_same : (p : ParentRef) (c : ℕ) → open_step t' p c ≡ open_step t p c
  pub bits_kept : (p : ParentRef) (c : ℕ) → bits_at t p c ≡ true → bits_at t' p c ≡ true

pub alike_tree : {t t' : CharTrie} {next : ℕ} {name : ℕ → List ℕ} {place : ℕ → ParentRef} → Alike t t' → Tree t next name place → Tree t' next name place
alike_tree {place = place} alike tree = record {
  root_name = tree.root_name;
  root_place = tree.root_place;
  child = λ n s h. let o = tree.child n s h in record {
    parent = o.parent;
    character = o.character;
    known = o.known;
    within = o.within;
    named = o.named;
    step = alike.step_same _ _ ∙ o.step;
    node = alike.node_same _ ∙ o.node;
  };
  led = λ n c p h l e. let o = tree.led n c p h l (sym (alike.step_same (place n) c) ∙ e) in record {
    node = o.node;
    known = o.known;
    placed = o.placed;
    named = o.named;
    bits = alike.bits_kept (place n) c o.bits;
  };
}

pub alike_words : {b : Book} {ledger : List Entry} {t t' : CharTrie} {next : ℕ} {name : ℕ → List ℕ} {place : ℕ → ParentRef}
    → ((p : ParentRef) → word_at b.head.records t' p ≡ word_at b.head.records t p) → Words b ledger t next name place → Words b ledger t' next name place
alike_words {place = place} same words = record {
  agrees = λ n h. rw (same (place n)) (words.agrees n h);
  entered = words.entered;
  own = λ m n k hm hn em en. words.own m n k hm hn (sym (same (place m)) ∙ em) (sym (same (place n)) ∙ en);
}

-- ---- the bits of a list's element

key_bit_high : (c : ℕ) → 48 ≤ key_bit c
unfolding key_bit
key_bit_high c = omega arith

child_bit_high : (c : ℕ) → 24 ≤ child_bit c
unfolding child_bit
child_bit_high c = omega arith

-- a list with a bit set in one of its elements
abbrev with_bit_in : List ℕ → ℕ → ℕ → List ℕ
with_bit_in l i bit = set l i (with_bit (get_or l i 0) bit)

node_kept : (l : List ℕ) (i c k : ℕ) → get_or (with_bit_in l i (child_bit c)) k 0 % 2 ^ 24 ≡ get_or l k 0 % 2 ^ 24
node_kept l i c k = set_keeps (λ x y. x % 2 ^ 24 ≡ y % 2 ^ 24) (λ x. refl) l i _ (keeps_low_bits (get_or l i 0) (child_bit c) 24 (child_bit_high c)) k

bit_kept : (l : List ℕ) (i bit k m : ℕ) → has_bit (get_or l k 0) m ≡ true → has_bit (get_or (with_bit_in l i bit) k 0) m ≡ true
bit_kept l i bit k m = set_keeps (λ x y. has_bit y m ≡ true → has_bit x m ≡ true) (λ x h. h) l i _ (keeps_set_bits (get_or l i 0) bit m) k

-- ---- at each kind of place

-- what setting a character's bits at a place does
pub record BitsSet (t t' : CharTrie) (p : ParentRef) (c : ℕ) : Type 0 where
  pub alike : Alike t t'
  pub bits_there : bits_at t' p c ≡ true
  pub words_same : (used : ℕ) (q : ParentRef) → word_at used t' q ≡ word_at used t q
  pub from_root_same : (q : ParentRef) (d : ℕ) → from_root t' q d ≡ from_root t q d
  pub slots_same : length t'.keys ≡ length t.keys
  pub probe_same : (key : ℕ) → probe_of t'.keys key ≡ probe_of t.keys key

-- tries that have the same parts of a step have the same step
pub same_parts : (t t' : CharTrie) (p : ParentRef) (c : ℕ) → from_root t' p c ≡ from_root t p c
    → eqb (get_or t'.root_children c 0) 0 ≡ eqb (get_or t.root_children c 0) 0
    → node_at t' p ≡ node_at t p → ((key : ℕ) → probe_of t'.keys key ≡ probe_of t.keys key) → open_step t' p c ≡ open_step t p c
same_parts t t' p c root entry node probe = step_tests t' p c ∙ (rw (root, entry, node, probe (key_of (node_at t p) c))) ∙ sym (step_tests t p c)

module _ (t : CharTrie) (i c : ℕ) (filled : InUse t (RootEntry i)) where
  abbrev with_entry : CharTrie
  with_entry = with_bits t (RootEntry i) c

  entry_empty : (k : ℕ) → eqb (get_or (with_bit_in t.root_children i (child_bit c)) k 0) 0 ≡ eqb (get_or t.root_children k 0) 0
  entry_empty k = set_keeps (λ x y. eqb x 0 ≡ eqb y 0) (λ x. refl) t.root_children i _
      (ne_eqb _ _ (is_never_zero _ (child_bit c)) ∙ sym (ne_eqb _ _ filled.1)) k

  entry_node : (p : ParentRef) → node_at with_entry p ≡ node_at t p
  unfolding node_at with_bits
  entry_node Root = refl
  entry_node (RootEntry k) = node_kept t.root_children i c k
  entry_node (Slot k) = refl

  entry_from_root : (p : ParentRef) (d : ℕ) → from_root with_entry p d ≡ from_root t p d
  unfolding from_root with_bits
  entry_from_root Root d = rw (length-set t.root_children i _)
  entry_from_root (RootEntry k) d = refl
  entry_from_root (Slot k) d = refl

  entry_step : (p : ParentRef) (d : ℕ) → open_step with_entry p d ≡ open_step t p d
  unfolding with_bits
  entry_step p d = same_parts t with_entry p d (entry_from_root p d) (entry_empty d) (entry_node p) (λ key. refl)

  entry_bits : (p : ParentRef) (d : ℕ) → bits_at t p d ≡ true → bits_at with_entry p d ≡ true
  unfolding bits_at with_bits
  entry_bits Root d h = h
  entry_bits (RootEntry k) d h = bit_kept t.root_children i (child_bit c) k (child_bit d) h
  entry_bits (Slot k) d h = h

  entry_there : bits_at with_entry (RootEntry i) c ≡ true
  unfolding bits_at with_bits
  entry_there = bit_there t.root_children i (child_bit c) filled.0

  entry_word : (used : ℕ) (p : ParentRef) → word_at used with_entry p ≡ word_at used t p
  unfolding word_at with_bits
  entry_word used Root = refl
  entry_word used (RootEntry k) = refl
  entry_word used (Slot k) = refl

  entry_set : BitsSet t with_entry (RootEntry i) c
  unfolding with_bits
  entry_set = record {
    alike = record { node_same = entry_node; step_same = entry_step; bits_kept = entry_bits };
    bits_there = entry_there;
    words_same = entry_word;
    from_root_same = entry_from_root;
    slots_same = refl;
    probe_same = λ key. refl;
  }

  entry_sizes : Sizes t → Sizes with_entry
  unfolding with_bits
  entry_sizes s =
      let long = length-set t.root_children i (with_bit (get_or t.root_children i 0) (child_bit c)) in
      record {
        roots_least = rw long s.roots_least;
        roots_most = rw long s.roots_most;
        root_words_lem = s.root_words_lem ∙ sym long;
        slots = s.slots;
        children = s.children;
        words = s.words;
      }

  entry_store : {next slots : ℕ} → Store t next slots → Store with_entry next slots
  unfolding with_bits
  entry_store s =
      let long = length-set t.root_children i (with_bit (get_or t.root_children i 0) (child_bit c)) in
      let count = empty_same t.root_children i _ filled.1 (is_never_zero (get_or t.root_children i 0) (child_bit c)) in
      record {
        found = s.found;
        keys_least = s.keys_least;
        keys_most = s.keys_most;
        slot_count_lem = s.slot_count_lem;
        node_count = rw (long, count) s.node_count;
        load = s.load;
      }

module _ (t : CharTrie) (i c : ℕ) (filled : InUse t (Slot i)) where
  abbrev with_slot : CharTrie
  with_slot = with_bits t (Slot i) c

  abbrev key' : ℕ
  key' = with_bit (get_or t.keys i 0) (key_bit c)

  low : key' % 2 ^ 48 ≡ get_or t.keys i 0 % 2 ^ 48
  low = keeps_low_bits (get_or t.keys i 0) (key_bit c) 48 (key_bit_high c)

  some : key' ≢ 0
  some = is_never_zero (get_or t.keys i 0) (key_bit c)

  slot_node : (p : ParentRef) → node_at with_slot p ≡ node_at t p
  unfolding node_at with_bits
  slot_node Root = refl
  slot_node (RootEntry k) = refl
  slot_node (Slot k) = node_kept t.children i c k

  slot_from_root : (p : ParentRef) (d : ℕ) → from_root with_slot p d ≡ from_root t p d
  unfolding from_root with_bits
  slot_from_root Root d = refl
  slot_from_root (RootEntry k) d = refl
  slot_from_root (Slot k) d = refl

  slot_step_lem : (p : ParentRef) (d : ℕ) → open_step with_slot p d ≡ open_step t p d
  unfolding with_bits
  slot_step_lem p d = same_parts t with_slot p d (slot_from_root p d) refl (slot_node p) (bits_probe t.keys i key' low filled.1 some)

  slot_bits : (p : ParentRef) (d : ℕ) → bits_at t p d ≡ true → bits_at with_slot p d ≡ true
  unfolding bits_at with_bits
  slot_bits Root d h = h
  slot_bits (RootEntry k) d h = h
  slot_bits (Slot k) d h =
      let parts = both _ _ h in
      rw (bit_kept t.keys i (key_bit c) k (key_bit d) parts.0) (bit_kept t.children i (child_bit c) k (child_bit d) parts.1)

  slot_there : Sizes t → bits_at with_slot (Slot i) c ≡ true
  unfolding bits_at with_bits
  slot_there s = rw (bit_there t.keys i (key_bit c) filled.0) (bit_there t.children i (child_bit c) (rw s.children filled.0))

  slot_word : (used : ℕ) (p : ParentRef) → word_at used with_slot p ≡ word_at used t p
  unfolding word_at with_bits
  slot_word used Root = refl
  slot_word used (RootEntry k) = refl
  slot_word used (Slot k) = refl

  slot_set : Sizes t → BitsSet t with_slot (Slot i) c
  unfolding with_bits
  slot_set s = record {
    alike = record { node_same = slot_node; step_same = slot_step_lem; bits_kept = slot_bits };
    bits_there = slot_there s;
    words_same = slot_word;
    from_root_same = slot_from_root;
    slots_same = length-set t.keys i key';
    probe_same = bits_probe t.keys i key' low filled.1 some;
  }

  slot_sizes : Sizes t → Sizes with_slot
  unfolding with_bits
  slot_sizes s =
      let long = length-set t.keys i key' in
      record {
        roots_least = s.roots_least;
        roots_most = s.roots_most;
        root_words_lem = s.root_words_lem;
        slots = rw long s.slots;
        children = length-set t.children i _ ∙ s.children ∙ sym long;
        words = s.words ∙ sym long;
      }

  slot_store : {next slots : ℕ} → Store t next slots → Store with_slot next slots
  unfolding with_bits
  slot_store s =
      let long = length-set t.keys i key' in
      let within : (k : ℕ) → k < length (set t.keys i key') → k < length t.keys = λ k h. rw long at h in
      let used = bits_used t.keys i key' low filled.1 some in
      record {
        found = bits_findable t.keys i key' low filled.1 some s.found;
        keys_least = λ k h n. rw (bits_low t.keys i key' low filled.1 some k) (s.keys_least k (within k h) (used k n));
        keys_most = λ k h n. rw (bits_low t.keys i key' low filled.1 some k) (s.keys_most k (within k h) (used k n));
        slot_count_lem = rw (long, empty_same t.keys i key' filled.1 some) s.slot_count_lem;
        node_count = s.node_count;
        load = rw long s.load;
      }

-- ---- at any place in use

module _ {t : CharTrie} (c : ℕ) (sizes : Sizes t) where
  pub bits_set : (p : ParentRef) → InUse t p → BitsSet t (with_bits t p c) p c
  unfolding with_bits bits_at
  bits_set Root filled = record {
    alike = record { node_same = λ q. refl; step_same = λ q d. refl; bits_kept = λ q d h. h };
    bits_there = refl;
    words_same = λ used q. refl;
    from_root_same = λ q d. refl;
    slots_same = refl;
    probe_same = λ key. refl;
  }
  bits_set (RootEntry i) filled = entry_set t i c filled
  bits_set (Slot i) filled = slot_set t i c filled sizes

  pub bits_sizes : (p : ParentRef) → InUse t p → Sizes (with_bits t p c)
  unfolding with_bits
  bits_sizes Root filled = sizes
  bits_sizes (RootEntry i) filled = entry_sizes t i c filled sizes
  bits_sizes (Slot i) filled = slot_sizes t i c filled sizes

  pub bits_store : {next slots : ℕ} (p : ParentRef) → InUse t p → Store t next slots → Store (with_bits t p c) next slots
  unfolding with_bits
  bits_store Root filled s = s
  bits_store (RootEntry i) filled s = entry_store t i c filled s
  bits_store (Slot i) filled s = slot_store t i c filled s

pub bits_tables : {b : Book} {ledger : List Entry} {t : CharTrie} {next slots : ℕ} {name : ℕ → List ℕ} {place : ℕ → ParentRef} (p : ParentRef) (c : ℕ)
    → InUse t p → Tables b ledger t next slots name place → Tables b ledger (with_bits t p c) next slots name place
bits_tables p c filled tables =
    let changed = bits_set c tables.sizes p filled in
    record {
      sizes = bits_sizes c tables.sizes p filled;
      tree = alike_tree changed.alike tables.tree;
      store = bits_store c tables.sizes p filled tables.store;
      words = alike_words (changed.words_same _) tables.words;
    }
