-- A word enters a built book: the decision is never damage, and what is written for it is a built book with the word entered in the ledger.
-- None of the tests for damage succeeds in a built book: its head is within its bounds, since nodes are as many as slots used, root entries used and the
-- root; a lookup and the insertion's own walk end at known nodes; a record's frequency is at most the total, which is their sum; and where the slots
-- used and the new ones are at most three quarters of all, there are empty slots enough and node numbers too.
-- Assumes nothing.
use Rattle.std.specs.Prelude.{Ok, Err}
use mathlib.Core.Path.{◌≡◌, refl, ap, subst}
use mathlib.Core.Bool.{Bool, true, false, cond, ◌||◌}
use mathlib.Core.Logic.{◌≢◌}
use mathlib.Core.List.{List, [], ◌∷◌, reverse}
use mathlib.Core.Option.{none}
use Prim.Native.Nat.{ℕ, suc, ◌+◌, ◌-◌, ◌*◌, ◌<◌, ◌≤◌}
use native.Mathlib.Omega.{arith}
use borrow.Author.Tests.{leb-true, leb-false, ltb-true, ltb-false, le-ltb}
use lib.Dec.{leb, ltb}
use lib.ListN.{length}
use Rattle.std.specs.Prelude.{Ok, Err, Some, None}
use Rattle.trie.specs.declared.ParentRef.{ParentRef}
use Rattle.trie.specs.declared.ParentRef.TheVariants.{Root}
use Rattle.trie.specs.Trie.{from_root, open_step, word_at, get_of, Reach, Reached, NoEnd, reach, new_slots, Step, WordNumber}
use Rattle.book.specs.declared.Entering.TheVariants.{Replace, Insert}
use Rattle.book.specs.declared.Refusal.{Refusal}
use Rattle.book.specs.declared.Refusal.TheVariants.{TotalTooLarge, RecordsFull, SlotsFull}
use Rattle.trie.specs.SlotCounts.{most_slots}
use Rattle.book.specs.Returns.{number_of, Book, frequency_at, greatest_total, greatest_next, head_damaged, damaged_head, sized}
use Rattle.book.specs.Enter.{decide_held, no_record, empty_slots, decide_new, decide_reached, decide_absent, decide, enter, replaced, inserted, Decision}
use Rattle.built.specs.Ledger.{Entry, frequency_in, enter_in}
use Rattle.built.specs.Built.{Agrees, not_entered, in_record, Built}
use Rattle.built.proofs.AllowedSizes.{allowed_of}
use Rattle.built.proofs.Keys.{slots_most}
use Rattle.built.proofs.Ledgers.{or_zero, frequency_most}
use Rattle.built.proofs.Steps.{Characters, undamaged_step, next_fits, next_some}
use Rattle.built.proofs.Insertion.{Standing, insert_lays}
use Rattle.built.proofs.Lookups.{Located, at_node, nowhere, located, record_agrees}
use Rattle.built.proofs.Records.{record_holds, replaced_built}
use Rattle.built.proofs.NewRecords.{inserted_built}

-- ---- sizes and head

none_holds : (a b c d e f : Bool) → a ≡ false → b ≡ false → c ≡ false → d ≡ false → e ≡ false → f ≡ false → (a || b || c || d || e || f) ≡ false
none_holds a b c d e f ea eb ec ed ee ef = rw (ea, eb, ec, ed, ee, ef)

module _ {b : Book} {ledger : List Entry} (built : Built b ledger) where
  slots_few : length b.trie.keys ≤ most_slots
  slots_few = slots_most (length b.trie.keys) built.tables.sizes.slots

  pub next_least : 1 ≤ b.head.next
  next_least = next_some built.tables.sizes built.tables.store

  next_within : b.head.next ≤ 1 + b.head.slots + length b.trie.root_children
  next_within = next_fits built.tables.sizes built.tables.store

  pub next_most : b.head.next ≤ greatest_next
  next_most = omega (arith, next_within, built.tables.store.load, built.tables.sizes.roots_most, slots_few)

  pub head_undamaged : damaged_head b ≡ false
  unfolding head_damaged
  head_undamaged =
      let load = built.tables.store.load in
      let few : b.head.slots ≤ length b.trie.keys = omega arith in
      none_holds _ _ _ _ _ _ (le-ltb _ _ few) (le-ltb _ _ built.records.used) (le-ltb _ _ load)
      (le-ltb _ _ built.records.total_most) (le-ltb _ _ next_least) (le-ltb _ _ next_most)

  pub sizes_allowed : sized b ≡ true
  sizes_allowed =
      let s = built.tables.sizes in
      let r = built.records in
      allowed_of _ _ _ _ _ _ _
      (record {
        roots_least = s.roots_least;
        roots_most = s.roots_most;
        root_words_lem = s.root_words_lem;
        slots = s.slots;
        children_long = s.children;
        words_long = s.words;
        records_least = r.records_least;
        records_most = r.records_most;
        logarithms_long = r.logarithms;
      })

  -- ---- the decision

  -- a refusal with a number other than 8, or a writing that is built with the word entered
  pub data Decided (word : List ℕ) (frequency : ℕ) : Decision → Type 0 where
    refuses : {x : Refusal} → number_of (Err x) ≢ 0 → number_of (Err x) ≢ 8 → Decided word frequency (Err x)
    replaces : {n total : ℕ} → Built (replaced b n frequency total) (enter_in ledger word frequency) → Decided word frequency (Ok (Replace n total))
    inserts : {slots nodes total : ℕ} → Built (inserted b word frequency slots nodes total) (enter_in ledger word frequency)
        → Decided word frequency (Ok (Insert slots nodes total))

  module _ (word : List ℕ) (frequency : ℕ) where
    -- a held word
    module _ (m n : ℕ) (known : m < b.head.next) (named : built.name m ≡ reverse word)
        (its_record : word_at b.head.records b.trie (built.place m) ≡ Ok (Some n)) where
      agrees : Agrees b ledger word (Ok (Some n))
      agrees = record_agrees built.tables word m n known named its_record

      -- its frequency is one of those that the total sums
      frequency_within : frequency_at b n ≤ b.head.total
      frequency_within =
          let its : or_zero (frequency_in ledger word) ≡ frequency_at b n = ap or_zero (record_holds agrees).1 in
          omega (arith, frequency_most ledger word, built.records.total)

      abbrev replaced_total : ℕ
      replaced_total = b.head.total - frequency_at b n + frequency

      held_decided : Decided word frequency (decide_held b n frequency)
      held_decided = go _ _ refl refl
        where
          go : (above within : Bool) → ltb b.head.total (frequency_at b n) ≡ above → leb replaced_total greatest_total ≡ within
              → Decided word frequency (cond above (Err Refusal.Damaged) (cond within (Ok (Replace n replaced_total)) (Err TotalTooLarge)))
          go true within ea ew = let above : b.head.total < frequency_at b n = ltb-true _ _ ea in absurd (omega (arith, frequency_within))
          go false false ea ew = refuses {x = TotalTooLarge} (λ e. omega arith) (λ e. omega arith)
          go false true ea ew = replaces (replaced_built built word m n frequency replaced_total known named its_record agrees refl (leb-true _ _ ew))

    -- a new word
    module _ (not_empty : word ≢ []) (characters : Characters word) (absent : frequency_in ledger word ≡ none) where
      root_standing : Standing b ledger b.trie b.head.next b.head.slots Root []
      root_standing = record {
        name = built.name;
        place = built.place;
        tables = built.tables;
        node = 0;
        known = next_least;
        placed = built.tables.tree.root_place;
        named = built.tables.tree.root_name;
      }

      -- at most one new node more than new slots
      nodes_most : (p : ParentRef) (rest : List ℕ) → length rest ≤ new_slots b.trie p rest + 1
      unfolding new_slots
      nodes_most p [] = omega arith
      nodes_most p (c ∷ cs) = go (from_root b.trie p c)
        where
          go : (root : Bool) → suc (length cs) ≤ cond root (length cs) (suc (length cs)) + 1
          go true = omega arith
          go false = omega arith

      abbrev taken : ParentRef → List ℕ → ℕ
      taken p rest = new_slots b.trie p rest

      new_decided : (p : ParentRef) (rest : List ℕ) → reach b.trie Root word ≡ Reached p rest
          → Decided word frequency (decide_new b (taken p rest) (length rest) frequency)
      new_decided p rest far = go _ _ _ _ _ refl refl refl refl refl
        where
          go : (t5 t6 t7 t8 t9 : Bool) → ltb greatest_total (b.head.total + frequency) ≡ t5 → no_record b.head (length b.records) ≡ t6
              → ltb (length b.trie.keys * 6) ((b.head.slots + taken p rest) * 8) ≡ t7 → ltb (empty_slots b.trie.keys) (taken p rest) ≡ t8
              → ltb greatest_next (b.head.next + length rest) ≡ t9
              → Decided word frequency
              (cond t5 (Err TotalTooLarge) (cond t6 (Err RecordsFull) (cond t7 (Err SlotsFull)
              (cond t8 (Err Refusal.Damaged) (cond t9 (Err Refusal.Damaged) (Ok (Insert (taken p rest) (length rest) (b.head.total + frequency))))))))
          go true t6 t7 t8 t9 e5 e6 e7 e8 e9 = refuses {x = TotalTooLarge} (λ e. omega arith) (λ e. omega arith)
          go false true t7 t8 t9 e5 e6 e7 e8 e9 = refuses {x = RecordsFull} (λ e. omega arith) (λ e. omega arith)
          go false false true t8 t9 e5 e6 e7 e8 e9 = refuses {x = SlotsFull} (λ e. omega arith) (λ e. omega arith)
          go false false false true t9 e5 e6 e7 e8 e9 =
              let room : (b.head.slots + taken p rest) * 8 ≤ length b.trie.keys * 6 = ltb-false _ _ e7 in
              let few : empty_slots b.trie.keys < taken p rest = ltb-true _ _ e8 in
              absurd (omega (arith, built.tables.store.slot_count_lem))
          go false false false false true e5 e6 e7 e8 e9 =
              let room : (b.head.slots + taken p rest) * 8 ≤ length b.trie.keys * 6 = ltb-false _ _ e7 in
              let many : greatest_next < b.head.next + length rest = ltb-true _ _ e9 in
              absurd (omega (arith, nodes_most p rest, next_within, slots_few, built.tables.sizes.roots_most))
          go false false false false false e5 e6 e7 e8 e9 =
              let room : (b.head.slots + taken p rest) * 8 ≤ length b.trie.keys * 6 = ltb-false _ _ e7 in
              inserts
              (inserted_built built.records word not_empty absent frequency (taken p rest) (length rest) (b.head.total + frequency)
              (insert_lays b ledger b.head.next b.head.slots word root_standing characters p rest far room)
              (leb-false _ _ e6) refl (ltb-false _ _ e5))

      -- the insertion's walk ends, at a known node
      data Ends : Reach → Type 0 where
        ends_at : {m : ℕ} {rest : List ℕ} → m < b.head.next → Ends (Reached (built.place m) rest)

      reach_ends : (cs : List ℕ) (n : ℕ) → n < b.head.next → Characters cs → Ends (reach b.trie (built.place n) cs)
      unfolding reach
      reach_ends [] n h w = ends_at h
      reach_ends (c ∷ cs) n h w = go (open_step b.trie (built.place n) c) refl (λ m hm. reach_ends cs m hm w.1)
        where
          go : (s : Step) → open_step b.trie (built.place n) c ≡ s → ((m : ℕ) → m < b.head.next → Ends (reach b.trie (built.place m) cs))
              → Ends (elim s [ Ok (Some q) ↦ reach b.trie q cs | Ok None ↦ Reached (built.place n) (c ∷ cs) | Err d ↦ NoEnd ])
          go (Ok (Some q)) e rest = let led = built.tables.tree.led n c q h w.0 e in rw led.placed (rest led.node led.known)
          go (Ok None) e rest = ends_at h
          go (Err d) e rest = absurd (undamaged_step built.tables.sizes built.tables.store (built.place n) c e)

      -- no word number there is bad
      reached_decided : (p : ParentRef) (rest v : List ℕ) (number : WordNumber) → Agrees b ledger v number
          → Decided word frequency (decide_new b (taken p rest) (length rest) frequency) → Decided word frequency (decide_reached b p rest number frequency)
      unfolding new_slots
      reached_decided p [] v number (not_entered e) d = d
      reached_decided p [] v number (in_record h e l) d = d
      reached_decided p (c ∷ cs) v number a d = d

      absent_decided : Decided word frequency (decide_absent b (reach b.trie Root word) frequency)
      absent_decided = go (reach b.trie Root word) refl root_ends
        where
          root_ends : Ends (reach b.trie Root word)
          root_ends = subst (λ (p : ParentRef). Ends (reach b.trie p word)) built.tables.tree.root_place (reach_ends word 0 next_least characters)

          go : (r : Reach) → reach b.trie Root word ≡ r → Ends r → Decided word frequency (decide_absent b r frequency)
          go r e (ends_at {m} {rest} h) =
              reached_decided (built.place m) rest (reverse (built.name m)) _ (built.tables.words.agrees m h) (new_decided (built.place m) rest e)

    pub decided : word ≢ [] → Characters word → Decided word frequency (decide b word frequency)
    unfolding decide
    decided not_empty characters = go (get_of b.head.records b.trie word) (located built.tables word characters)
      where
        go : (g : WordNumber) → Located built.tables word g
            → Decided word frequency (elim g [
              | Ok (Some n) ↦ decide_held b n frequency
              | Ok None ↦ decide_absent b (reach b.trie Root word) frequency
              | Err d ↦ Err Refusal.Damaged
            ])
        go g (at_node {m} {n} h e en) = held_decided m n h e en
        go g (nowhere e) = absent_decided not_empty characters e

    -- with the head's test before it
    pub enter_decided : word ≢ [] → Characters word → Decided word frequency (enter b word frequency)
    enter_decided not_empty characters = rw head_undamaged (decided not_empty characters)
