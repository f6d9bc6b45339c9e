-- The second kind of write that changes the ledger: a new word's place gets the next record.
-- A word number is no part of any step, so the tree and the store stay. The next record is no node's yet, since every record that a node has is below
-- the records used; and a number that was right is right with one record more.
-- Assumes nothing.
use mathlib.Core.Path.{◌≡◌, refl, sym, ap, ◌∙◌, subst}
use mathlib.Core.Bool.{Bool, true, false, cond}
use mathlib.Core.Logic.{◌≢◌}
use mathlib.Core.List.{List, [], reverse, reverse-reverse}
use mathlib.Core.Option.{none}
use Prim.Native.Nat.{ℕ, zero, suc, ◌+◌, ◌%◌, ◌^◌, ◌<◌, ◌≤◌}
use native.Mathlib.Omega.{arith}
use borrow.Author.Tests.{lt-ltb, ltb-true}
use lib.Dec.{eqb, ltb}
use lib.Ieee.{nan}
use lib.IntN.{ℤ, pos, negsuc}
use lib.ListN.{length, get_or, length-set}
use lib.Seq.{get_or-set_same, get_or-set_other}
use Rattle.std.specs.Prelude.{Ok, Err, Some}
use Rattle.trie.specs.declared.ParentRef.{ParentRef}
use Rattle.trie.specs.declared.ParentRef.TheVariants.{Root, RootEntry, Slot}
use Rattle.trie.specs.Trie.{CharTrie, no_word, word_number, probe_of, node_at, from_root, bits_at, word_at, with_word, insert, WordNumber, damage}
use Rattle.score.specs.Logarithm.{log_float}
use Rattle.book.specs.Returns.{Book, cell_frequency, greatest_total}
use Rattle.book.specs.Enter.{new_cell, inserted}
use Rattle.book.proofs.Areas.{new_frequency}
use Rattle.built.specs.Ledger.{Entry, frequency_in, enter_in}
use Rattle.built.specs.Built.{Sizes, Store, Agrees, not_entered, in_record, Records, Tables, Built}
use Rattle.built.proofs.Ledgers.{or_zero, sum_entered, once_kept}
use Rattle.built.proofs.Steps.{InUse, node_of_place, place_in_use, same_place}
use Rattle.built.proofs.FilterBits.{Alike, alike_tree, same_parts}
use Rattle.built.proofs.Insertion.{Standing, Laid}
use Rattle.built.proofs.Records.{WordWritten, words_entered}

-- ---- a place gets a word number

-- tries that differ in word numbers only
module _ (t t' : CharTrie) (roots : t'.root_children ≡ t.root_children) (keys : t'.keys ≡ t.keys) (children : t'.children ≡ t.children) where
  same_node : (p : ParentRef) → node_at t' p ≡ node_at t p
  unfolding node_at
  same_node Root = refl
  same_node (RootEntry i) = ap (λ (l : List ℕ). get_or l i 0 % 2 ^ 24) roots
  same_node (Slot i) = ap (λ (l : List ℕ). get_or l i 0 % 2 ^ 24) children

  same_from_root : (p : ParentRef) (c : ℕ) → from_root t' p c ≡ from_root t p c
  unfolding from_root
  same_from_root Root c = ap (λ (l : List ℕ). ltb c (length l)) roots
  same_from_root (RootEntry i) c = refl
  same_from_root (Slot i) c = refl

  same_bits : (p : ParentRef) (c : ℕ) → bits_at t p c ≡ true → bits_at t' p c ≡ true
  unfolding bits_at
  same_bits Root c h = h
  same_bits (RootEntry i) c h = rw roots h
  same_bits (Slot i) c h = rw (keys, children) h

  only_numbers : Alike t t'
  only_numbers = record {
    node_same = same_node;
    step_same = λ p c. same_parts t t' p c (same_from_root p c) (ap (λ (l : List ℕ). eqb (get_or l c 0) 0) roots) (same_node p)
        (λ key. ap (λ (l : List ℕ). probe_of l key) keys);
    bits_kept = same_bits;
  }

module _ (t : CharTrie) (number : ℤ) where
  number_alike : (p : ParentRef) → Alike t (with_word t p number)
  unfolding with_word
  number_alike Root = only_numbers t t refl refl refl
  number_alike (RootEntry i) = only_numbers t (with_word t (RootEntry i) number) refl refl refl
  number_alike (Slot i) = only_numbers t (with_word t (Slot i) number) refl refl refl

  number_sizes : (p : ParentRef) → Sizes t → Sizes (with_word t p number)
  unfolding with_word
  number_sizes Root s = s
  number_sizes (RootEntry i) s = record {
    roots_least = s.roots_least;
    roots_most = s.roots_most;
    root_words_lem = length-set t.root_words i number ∙ s.root_words_lem;
    slots = s.slots;
    children = s.children;
    words = s.words;
  }
  number_sizes (Slot i) s = record {
    roots_least = s.roots_least;
    roots_most = s.roots_most;
    root_words_lem = s.root_words_lem;
    slots = s.slots;
    children = s.children;
    words = length-set t.words i number ∙ s.words;
  }

  -- a store is of the keys and the root entries alone
  number_store : {next slots : ℕ} (p : ParentRef) → Store t next slots → Store (with_word t p number) next slots
  unfolding with_word
  number_store Root s = s
  number_store (RootEntry i) s = record {
    found = s.found;
    keys_least = s.keys_least;
    keys_most = s.keys_most;
    slot_count_lem = s.slot_count_lem;
    node_count = s.node_count;
    load = s.load;
  }
  number_store (Slot i) s = record {
    found = s.found;
    keys_least = s.keys_least;
    keys_most = s.keys_most;
    slot_count_lem = s.slot_count_lem;
    node_count = s.node_count;
    load = s.load;
  }

  number_here : (used : ℕ) (p : ParentRef) → p ≢ Root → Sizes t → InUse t p → word_at used (with_word t p number) p ≡ word_number used number
  unfolding word_at with_word
  number_here used Root ne s filled = absurd (ne refl)
  number_here used (RootEntry i) ne s filled = ap (word_number used) (get_or-set_same t.root_words i number no_word (rw s.root_words_lem filled.0))
  number_here used (Slot i) ne s filled = ap (word_number used) (get_or-set_same t.words i number no_word (rw s.words filled.0))

  number_elsewhere : (used : ℕ) (p q : ParentRef) → q ≢ p → word_at used (with_word t p number) q ≡ word_at used t q
  unfolding word_at with_word
  number_elsewhere used Root q ne = refl
  number_elsewhere used (RootEntry j) Root ne = refl
  number_elsewhere used (RootEntry j) (RootEntry i) ne = ap (word_number used) (get_or-set_other t.root_words j i number no_word (λ e. ne (ap RootEntry e)))
  number_elsewhere used (RootEntry j) (Slot i) ne = refl
  number_elsewhere used (Slot j) Root ne = refl
  number_elsewhere used (Slot j) (RootEntry i) ne = refl
  number_elsewhere used (Slot j) (Slot i) ne = ap (word_number used) (get_or-set_other t.words j i number no_word (λ e. ne (ap Slot e)))

-- a number that was right with fewer records is right with one more, and the next record is now one
more_records : (used : ℕ) (z : ℤ) → word_number used z ≢ Err damage → word_number (used + 1) z ≡ word_number used z
unfolding word_number
more_records used (pos n) good = go (ltb n used) refl good
  where
    go : (t : Bool) → ltb n used ≡ t → cond t (Ok (Some n)) (Err damage) ≢ Err damage → cond (ltb n (used + 1)) (Ok (Some n)) (Err damage) ≡ cond t (Ok (Some n)) (Err damage)
    go true t good = let below : n < used = ltb-true n used t in rw (lt-ltb n (used + 1) (omega arith))
    go false t good = absurd (good refl)
more_records used (negsuc zero) good = refl
more_records used (negsuc (suc n)) good = absurd (good refl)

more_records_at : (used : ℕ) (t : CharTrie) (p : ParentRef) → word_at used t p ≢ Err damage → word_at (used + 1) t p ≡ word_at used t p
unfolding word_at
more_records_at used t Root good = refl
more_records_at used t (RootEntry i) good = more_records used (get_or t.root_words i no_word) good
more_records_at used t (Slot i) good = more_records used (get_or t.words i no_word) good

next_is_record : (used : ℕ) → word_number (used + 1) (pos used) ≡ Ok (Some used)
unfolding word_number
next_is_record used = rw (lt-ltb used (used + 1) (omega arith))

-- ---- a new word's place gets the next record

module _ {b : Book} {ledger : List Entry} (records : Records b ledger) (word : List ℕ) (not_empty : word ≢ []) (absent : frequency_in ledger word ≡ none)
    (frequency slots nodes total : ℕ)
    (l : Laid b ledger (b.head.next + nodes) (b.head.slots + slots) (reverse word) (insert b.trie Root word b.head.next))
    (room : b.head.records < length b.records) (total_is : total ≡ b.head.total + frequency) (total_most : total ≤ greatest_total) where
  abbrev s : Standing b ledger l.trie (b.head.next + nodes) (b.head.slots + slots) l.place (reverse word)
  s = l.standing

  abbrev n : ℕ
  n = b.head.records

  abbrev t' : CharTrie
  t' = with_word l.trie (s.place s.node) (pos n)

  abbrev after : Book
  after = inserted b word frequency slots nodes total

  not_root : s.place s.node ≢ Root
  unfolding node_at
  not_root e =
      let zero_node : s.node ≡ 0 = sym (node_of_place s.tables.tree s.node s.known) ∙ ap (node_at l.trie) e in
      not_empty (sym (reverse-reverse word) ∙ ap reverse (sym s.named ∙ ap s.name zero_node ∙ s.tables.tree.root_name))

  elsewhere : (k : ℕ) → k < b.head.next + nodes → k ≢ s.node → s.place k ≢ s.place s.node
  elsewhere k h ne e = ne (same_place s.tables.tree k s.node h s.known e)

  inserted_written : WordWritten b after l.trie t' (b.head.next + nodes) s.place s.node n frequency
  unfolding inserted
  inserted_written = record {
    here =
        number_here l.trie (pos n) (n + 1) (s.place s.node) not_root s.tables.sizes
        (place_in_use s.tables.tree s.tables.sizes s.node s.known)
        ∙ next_is_record n;
    used = omega arith;
    more = omega arith;
    its_frequency = ap cell_frequency (get_or-set_same b.records n (new_cell frequency) 0 room) ∙ new_frequency frequency (omega arith);
    its_logarithm = get_or-set_same b.logarithms n (log_float frequency) nan (rw records.logarithms room);
    frequency_kept = λ i ne. ap cell_frequency (get_or-set_other b.records n i (new_cell frequency) 0 ne);
    logarithm_kept = λ i ne. get_or-set_other b.logarithms n i (log_float frequency) nan ne;
    number_kept = λ k h ne good. number_elsewhere l.trie (pos n) (n + 1) (s.place s.node) (s.place k) (elsewhere k h ne)
        ∙ more_records_at n l.trie (s.place k) good;
    apart = λ k h ne e. next_unused _ k (s.tables.words.agrees k h) e;
  }
    where
      next_unused : (number : WordNumber) (k : ℕ) → Agrees b ledger (reverse (s.name k)) number → number ≡ Ok (Some n) → ⊥
      next_unused number k (not_entered e) q = let z : ◌≡◌ {A = ℕ} 0 1 = cc in omega arith
      next_unused number k (in_record {n = i} h e g) q = let one : i ≡ n = cc in omega arith

  inserted_records : Records after (enter_in ledger word frequency)
  unfolding inserted
  inserted_records =
      let long = length-set b.records n (new_cell frequency) in
      let sum = sum_entered ledger word frequency in
      let old : or_zero (frequency_in ledger word) ≡ 0 = ap or_zero absent in
      record {
        records_least = rw long records.records_least;
        records_most = rw long records.records_most;
        logarithms = length-set b.logarithms n (log_float frequency) ∙ records.logarithms ∙ sym long;
        used = rw long (omega arith);
        total = omega (arith, records.total);
        total_most = total_most;
        once = once_kept ledger word frequency records.once;
      }

  trie_is : t' ≡ insert b.trie Root word b.head.next (pos n)
  trie_is = ap (λ (p : ParentRef). with_word l.trie p (pos n)) s.placed ∙ sym (l.numbered (pos n))

  inserted_tables : Tables after (enter_in ledger word frequency) t' (b.head.next + nodes) (b.head.slots + slots) s.name s.place
  inserted_tables = record {
    sizes = number_sizes l.trie (pos n) (s.place s.node) s.tables.sizes;
    tree = alike_tree (number_alike l.trie (pos n) (s.place s.node)) s.tables.tree;
    store = number_store l.trie (pos n) (s.place s.node) s.tables.store;
    words = words_entered s.tables.tree s.tables.words word s.known s.named inserted_written;
  }

  pub inserted_built : Built after (enter_in ledger word frequency)
  unfolding inserted
  inserted_built = record {
    name = s.name;
    place = s.place;
    tables =
        subst (λ (t : CharTrie). Tables after (enter_in ledger word frequency) t (b.head.next + nodes) (b.head.slots + slots) s.name s.place)
        trie_is inserted_tables;
    records = inserted_records;
  }
