-- The invariant of books built by calls. `Built b ledger` says how the tables of a book stand for the words of a ledger, in five parts: the
-- tables' sizes, the tree that the steps make, the store of keys that finds them, the word numbers, and the records with the total. The empty
-- book has it with the empty ledger, every call keeps it, and everything that `Claims.antt` says of a book follows from it.
--
-- The parts speak of nodes by their numbers. Each has a `name`, the characters from the root to it with the LAST FIRST, so that a child's name is
-- one character before its parent's; and a `place`, the root, root entry or slot that leads to it. The two are functions from node numbers, kept
-- for the proof alone. Those parts that hold in the midst of an insertion too are of a trie with its next node and slots used, given apart.
-- Assumes nothing.
use Rattle.std.specs.Prelude.{◌≡◌, ◌≢◌, true, cond, List, [], ◌∷◌, reverse, ℕ, ◌+◌, ◌*◌, ◌%◌, ◌^◌, ◌<◌, ◌≤◌, eqb, length, get_or, Ok, Some, None}
use Rattle.std.proofs.Math.Option.{none, some}
use Rattle.std.specs.Float.{nan}
use Rattle.trie.specs.declared.ParentRef.{ParentRef}
use Rattle.trie.specs.declared.ParentRef.TheVariants.{Root}
use Rattle.trie.specs.declared.Probe.TheVariants.{Found}
use Rattle.trie.specs.SlotCounts.{slot_count}
use Rattle.trie.specs.Trie.{CharTrie, probe_of, node_at, open_step, bits_at, word_at, WordNumber}
use Rattle.score.specs.Logarithm.{log_float}
use Rattle.book.specs.Returns.{Book, frequency_at, most_records, greatest_total}
use Rattle.book.specs.Enter.{empty_slots}
use Rattle.built.specs.Ledger.{Entry, frequency_in, sum_of, EachOnce}

-- ---- the sizes, which no call changes

-- those that `sized` tests of a trie
pub record Sizes (t : CharTrie) : Type 0 where
  pub roots_least : 1 ≤ length t.root_children
  pub roots_most : length t.root_children ≤ 65536
  pub root_words_lem : length t.root_words ≡ length t.root_children
  pub slots : slot_count (length t.keys) ≡ true
  pub children : length t.children ≡ length t.keys
  pub words : length t.words ≡ length t.keys

-- ---- the tree

-- a node other than the root is a known parent's child by one character, and its place holds its number; the character is below 2^21, so that
-- "parent × 2^21 + character + 1" tells both parent and character
pub record Child (t : CharTrie) (next : ℕ) (name : ℕ → List ℕ) (place : ℕ → ParentRef) (n : ℕ) : Type 0 where
  pub parent : ℕ
  pub character : ℕ
  pub known : parent < next
  pub within : character < 2 ^ 21
  pub named : name n ≡ character ∷ name parent
  pub step : open_step t (place parent) character ≡ Ok (Some (place n))
  pub node : node_at t (place n) ≡ n

-- a place that a step from a parent leads to is a known node's, whose name is that character before the parent's; and the parent has the
-- character's bits, so that a step that tests them goes there too
pub record LedTo (t : CharTrie) (next : ℕ) (name : ℕ → List ℕ) (place : ℕ → ParentRef) (parent character : ℕ) (p : ParentRef) : Type 0 where
  pub node : ℕ
  pub known : node < next
  pub placed : p ≡ place node
  pub named : name node ≡ character ∷ name parent
  pub bits : bits_at t (place parent) character ≡ true

pub record Tree (t : CharTrie) (next : ℕ) (name : ℕ → List ℕ) (place : ℕ → ParentRef) : Type 0 where
  pub root_name : name 0 ≡ []
  pub root_place : place 0 ≡ Root
  pub child : (n : ℕ) → 0 < n → n < next → Child t next name place n
  pub led : (parent character : ℕ) (p : ParentRef) → parent < next → character < 2 ^ 21 → open_step t (place parent) character ≡ Ok (Some p)
      → LedTo t next name place parent character p

-- ---- the store

-- `found`: a key in use is found by its own probe. The low 48 bits of a key in use are a key: at least 1, and of no parent that is still to come,
-- so that a new node has no children.
-- The head's counts are those of the tables: as many slots are used as have a key, and there is a node for each of them, for each root entry that is
-- not empty, and for the root. At most three quarters of the slots are used, so there is an empty one, at which every probe ends.
pub record Store (t : CharTrie) (next slots : ℕ) : Type 0 where
  pub found : (i : ℕ) → i < length t.keys → get_or t.keys i 0 ≢ 0 → probe_of t.keys (get_or t.keys i 0 % 2 ^ 48) ≡ Ok (Found i)
  pub keys_least : (i : ℕ) → i < length t.keys → get_or t.keys i 0 ≢ 0 → 1 ≤ get_or t.keys i 0 % 2 ^ 48
  pub keys_most : (i : ℕ) → i < length t.keys → get_or t.keys i 0 ≢ 0 → get_or t.keys i 0 % 2 ^ 48 ≤ next * 2 ^ 21
  pub slot_count_lem : slots + empty_slots t.keys ≡ length t.keys
  pub node_count : next + empty_slots t.root_children ≡ 1 + slots + length t.root_children
  pub load : slots * 8 ≤ length t.keys * 6

-- ---- the word numbers

-- what a word number says of a word: it is none, and the ledger does not have the word; or it is that of a record in use, which holds the ledger's
-- frequency and "its logarithm as a double"
pub data Agrees (b : Book) (ledger : List Entry) (word : List ℕ) : WordNumber → Type 0 where
  not_entered : frequency_in ledger word ≡ none → Agrees b ledger word (Ok None)
  in_record : {n : ℕ} → n < b.head.records → frequency_in ledger word ≡ some (frequency_at b n)
      → get_or b.logarithms n nan ≡ log_float (frequency_at b n) → Agrees b ledger word (Ok (Some n))

-- the node of a word
pub record NodeOf (next : ℕ) (name : ℕ → List ℕ) (word : List ℕ) : Type 0 where
  pub node : ℕ
  pub known : node < next
  pub named : name node ≡ reverse word

-- each node's word number is right, each word of the ledger has a node, and each word has a record of its own
pub record Words (b : Book) (ledger : List Entry) (t : CharTrie) (next : ℕ) (name : ℕ → List ℕ) (place : ℕ → ParentRef) : Type 0 where
  pub agrees : (n : ℕ) → n < next → Agrees b ledger (reverse (name n)) (word_at b.head.records t (place n))
  pub entered : (word : List ℕ) (frequency : ℕ) → frequency_in ledger word ≡ some frequency → NodeOf next name word
  pub own : (m n k : ℕ) → m < next → n < next → word_at b.head.records t (place m) ≡ Ok (Some k) → word_at b.head.records t (place n) ≡ Ok (Some k) → m ≡ n

-- ---- the records and the total

-- "in a book built by calls the total is the sum over held words"
pub record Records (b : Book) (ledger : List Entry) : Type 0 where
  pub records_least : 1 ≤ length b.records
  pub records_most : length b.records ≤ most_records
  pub logarithms : length b.logarithms ≡ length b.records
  pub used : b.head.records ≤ length b.records
  pub total : b.head.total ≡ sum_of ledger
  pub total_most : b.head.total ≤ greatest_total
  pub once : EachOnce ledger

-- ---- the whole

-- what holds of the tables at every step of an insertion: b's records, and a trie with its next node and its slots used
pub record Tables (b : Book) (ledger : List Entry) (t : CharTrie) (next slots : ℕ) (name : ℕ → List ℕ) (place : ℕ → ParentRef) : Type 0 where
  pub sizes : Sizes t
  pub tree : Tree t next name place
  pub store : Store t next slots
  pub words : Words b ledger t next name place

pub record Built (b : Book) (ledger : List Entry) : Type 0 where
  pub name : ℕ → List ℕ
  pub place : ℕ → ParentRef
  pub tables : Tables b ledger b.trie b.head.next b.head.slots name place
  pub records : Records b ledger

-- a function from numbers with another value at one of them: the name or the place of a new node
unfoldable pub update_at : {A : Type 0} → (ℕ → A) → ℕ → A → ℕ → A
update_at f n value m = cond (eqb m n) value (f m)
