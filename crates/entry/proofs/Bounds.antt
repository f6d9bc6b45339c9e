-- What a decision to write promises: the record is there, and the head's numbers stay small.
-- A word is replaced in a record that a lookup found, so one that is used; it is inserted only where a record is left, the slots stay within six eighths
-- and the nodes below the limit.
-- Assumes nothing.
use Rattle.std.specs.Prelude.{Ok, Err}
use mathlib.Core.Path.{◌≡◌, refl}
use mathlib.Core.Bool.{Bool, true, false, cond}
use mathlib.Core.List.{List, [], ◌∷◌}
use mathlib.Core.Option.{Option, none, some}
use Prim.Native.Nat.{ℕ, ◌+◌, ◌-◌, ◌*◌, ◌/◌, ◌%◌, ◌<◌, ◌≤◌}
use borrow.Author.Tests.{leb-false, ltb-false}
use lib.Dec.{leb, ltb}
use lib.Ieee.{Float}
use lib.ListN.{length}
use Rattle.std.specs.Prelude.{Ok, Err, Some, None}
use Rattle.trie.specs.declared.ParentRef.{ParentRef}
use Rattle.trie.specs.declared.ParentRef.TheVariants.{Root}
use Rattle.trie.specs.Trie.{CharTrie, trie_of, get_of, word_at, Reach, Reached, NoEnd, reach, new_slots, new_nodes, WordNumber}
use Rattle.walk.specs.Walk.{got_of}
use Rattle.book.specs.declared.Head.{Head}
use Rattle.book.specs.declared.Entering.TheVariants.{Replace, Insert}
use Rattle.book.specs.Areas.{book_of}
use Rattle.book.specs.Returns.{Book, frequency_at, greatest_total, greatest_next, damaged_head}
use Rattle.book.specs.Enter.{empty_slots, no_record, next_record, decide_held, decide_new, decide_reached, decide_absent, decide, enter, Decision}
use Rattle.book.proofs.Held.{held_used}
use Rattle.trie.proofs.Packed.{keys_whole}
use Rattle.decision.specs.Texts.{decide_text}

-- what a decision promises of a book with so many records and slots; a refusal promises nothing
pub record Inserts (h : Head) (records slot_count slots nodes : ℕ) : Type 0 where
  pub record_left : next_record h < records
  pub slots_within : (h.slots + slots) * 8 ≤ slot_count * 6
  pub nodes_within : h.next + nodes ≤ greatest_next

abbrev pub Promises : Book → Decision → Type 0
Promises b (Err r) = Unit {0}
Promises b (Ok (Replace n total)) = n < b.head.records
Promises b (Ok (Insert slots nodes total)) = Inserts b.head (length b.records) (length b.trie.keys) slots nodes

-- a choice by a test, each arm of which keeps the promise
by_test : (b : Book) (t : Bool) (x y : Decision) → (t ≡ true → Promises b x) → (t ≡ false → Promises b y) → Promises b (cond t x y)
by_test b true x y p q = p refl
by_test b false x y p q = q refl

held : (b : Book) (n frequency : ℕ) → n < b.head.records → Promises b (decide_held b n frequency)
held b n frequency h =
    by_test b (ltb b.head.total (frequency_at b n)) _ _ (λ e. tt)
    (λ e. by_test b (leb (b.head.total - frequency_at b n + frequency) greatest_total) _ _ (λ f. h) (λ f. tt))

new : (b : Book) (slots nodes frequency : ℕ) → Promises b (decide_new b slots nodes frequency)
new b slots nodes frequency =
    by_test b (ltb greatest_total (b.head.total + frequency)) _ _ (λ e. tt)
    (λ e. by_test b (no_record b.head (length b.records)) _ _ (λ f. tt)
    (λ f. by_test b (ltb (length b.trie.keys * 6) ((b.head.slots + slots) * 8)) _ _ (λ g. tt)
    (λ g. by_test b (ltb (empty_slots b.trie.keys) slots) _ _ (λ i. tt)
    (λ i. by_test b (ltb greatest_next (b.head.next + nodes)) _ _ (λ j. tt)
    (λ j. record { record_left = leb-false _ _ f; slots_within = ltb-false _ _ g; nodes_within = ltb-false _ _ j })))))

reached : (b : Book) (p : ParentRef) (rest : List ℕ) (w : WordNumber) (frequency : ℕ) → Promises b (decide_reached b p rest w frequency)
reached b p [] (Err d) frequency = tt
reached b p [] (Ok None) frequency = new b 0 0 frequency
reached b p [] (Ok (Some n)) frequency = new b 0 0 frequency
reached b p (c ∷ cs) w frequency = new b (new_slots b.trie p (c ∷ cs)) (new_nodes (c ∷ cs)) frequency

absent : (b : Book) (r : Reach) (frequency : ℕ) → Promises b (decide_absent b r frequency)
absent b NoEnd frequency = tt
absent b (Reached p rest) frequency = reached b p rest (word_at b.head.records b.trie p) frequency

decided : (b : Book) (word : List ℕ) (frequency : ℕ) → Promises b (decide b word frequency)
unfolding decide
decided b word frequency = go (get_of b.head.records b.trie word) refl
  where
    go : (g : WordNumber) → get_of b.head.records b.trie word ≡ g → Promises b (decide b word frequency)
    go (Ok (Some n)) e = rw (e, decide) (held b n frequency (held_used b.head.records n b.trie (some word) (unfold got_of in e)))
    go (Ok None) e = rw (e, decide) (absent b (reach b.trie Root word) frequency)
    go (Err d) e = rw (e, decide) tt

-- the same with the test of the head before it
pub entering : (b : Book) (word : List ℕ) (frequency : ℕ) → Promises b (enter b word frequency)
entering b word frequency = by_test b (damaged_head b) _ _ (λ e. tt) (λ e. decided b word frequency)

decided_text : (b : Book) (o : Option (List ℕ)) (frequency : ℕ) → Promises b (decide_text b o frequency)
unfolding decide_text
decided_text b none frequency = tt
decided_text b (some word) frequency = decided b word frequency

-- ---- the same of what `decide` answers, whatever the logarithms

module _ (head : Head) (trie : CharTrie) (r : List ℕ) (o : Option (List ℕ)) (frequency : ℕ) {d : Decision}
    (decides : (l : List Float) → d ≡ decide_text (book_of head trie r l) o frequency) where
  promised : Promises (book_of head trie r []) d
  promised = rw (decides []) (decided_text (book_of head trie r []) o frequency)

  pub record_held : {n total : ℕ} → d ≡ Ok (Replace n total) → n < head.records
  record_held e = rw e at promised

  promised_room : {slots nodes total : ℕ} → d ≡ Ok (Insert slots nodes total) → Inserts head (length r) (length trie.keys) slots nodes
  promised_room e = rw e at promised

-- there are as many keys as slots, two numbers for each
pub room_left : (head : Head) (roots slots records : List ℕ) (o : Option (List ℕ)) (frequency : ℕ) {d : Decision}
    → ((l : List Float) → d ≡ decide_text (book_of head (trie_of roots slots) records l) o frequency) → length slots % 2 ≡ 0
    → {new nodes total : ℕ} → d ≡ Ok (Insert new nodes total) → Inserts head (length records) (length slots / 2) new nodes
room_left head roots slots records o frequency decides whole e =
    rw (keys_whole slots whole) at (promised_room head (trie_of roots slots) records o frequency decides e)
