-- The trie: document 01, "Into the trie: `CharTrie::insert`", with the emptiness and the word numbers of "What each call returns".
-- Every definition is total: it says what is done with any content of the tables, built by calls or not.
-- Assumes nothing.
use Rattle.std.specs.Prelude.{ℕ, zero, suc, ◌+◌, ◌-◌, ◌*◌, ◌/◌, ◌%◌, ◌^◌, ◌≤◌, Bool, true, false, cond, ◌&&◌, List, [], ◌∷◌, map, ◌≡◌, eqb, ltb, ℤ, pos, negsuc, length, get_or, set, drop, Result, Ok, Err, Option, Some, None}
use Rattle.std.proofs.Props.{props}
use Rattle.std.specs.Int.Count.{count_leading_zeros}
use Rattle.arith.specs.Bits.{has_bit, with_bit}
use Rattle.trie.specs.declared.ParentRef.{ParentRef}
use Rattle.trie.specs.declared.ParentRef.TheVariants.{Root, RootEntry, Slot}
use Rattle.trie.specs.declared.Probe.{Probe}
use Rattle.trie.specs.declared.Probe.TheVariants.{Found, Empty}
use Rattle.trie.specs.declared.Damaged.{Damaged}

-- ---- what calls answer

-- tables that no calls have left so
abbrev pub damage : Damaged
damage = record {}

-- what a word number says, and what a lookup finds: the word's record, or no word
abbrev pub WordNumber : Type 0
WordNumber = Result (Option ℕ) Damaged

-- where a step leads: to a place, or nowhere
abbrev pub Step : Type 0
Step = Result (Option ParentRef) Damaged

-- ---- the tables

-- "A root entry is a child and a word number, a slot a key, a child and a word number"
pub record CharTrie : Type 0 where
  pub root_children : List ℕ
  pub root_words : List ℤ
  pub keys : List ℕ
  pub children : List ℕ
  pub words : List ℤ

-- "every word number -1"
abbrev pub no_word : ℤ
no_word = negsuc 0

-- ---- the tables as they are lent: `roots`, a number for each root entry, and `slots`, two numbers for each slot

-- a link, of 64 bits: a child in its low 32, and in its high 32 the word number and one, so that 0 is the link of an empty place
unfoldable pub child_of : ℕ → ℕ
child_of link = link % 2 ^ 32

abbrev pub word_before : ℕ → ℤ
word_before zero = no_word
word_before (suc n) = pos n

unfoldable pub word_of : ℕ → ℤ
word_of link = word_before (link / 2 ^ 32)

unfoldable pub children_of : List ℕ → List ℕ
children_of links = map child_of links

unfoldable pub words_of : List ℕ → List ℤ
words_of links = map word_of links

-- the first of every two numbers; a last one that stands alone is a first one
unfoldable pub firsts : List ℕ → List ℕ
firsts [] = []
firsts (x ∷ []) = x ∷ []
firsts (x ∷ y ∷ xs) = x ∷ firsts xs

-- a slot is a key and then a link; of an odd number of numbers there is a key more than links
unfoldable pub keys_of : List ℕ → List ℕ
keys_of slots = firsts slots

unfoldable pub links_of : List ℕ → List ℕ
links_of slots = firsts (drop 1 slots)

abbrev pub trie_of : List ℕ → List ℕ → CharTrie
trie_of roots slots = record {
  root_children = children_of roots;
  root_words = words_of roots;
  keys = keys_of slots;
  children = children_of (links_of slots);
  words = words_of (links_of slots);
}

-- "a word number other than -1 and 0 to the records used less 1" is damage
unfoldable pub word_number : ℕ → ℤ → WordNumber
word_number used (pos n) = cond (ltb n used) (Ok (Some n)) (Err damage)
word_number used (negsuc zero) = Ok None
word_number used (negsuc (suc n)) = Err damage

-- ---- keys and slots

-- "Key = parent × 2^21 + character + 1"
unfoldable pub key_of : ℕ → ℕ → ℕ
key_of parent ch = parent * 2 ^ 21 + ch + 1

-- the place of a number's highest one; of a power of two its logarithm
unfoldable pub log2 : ℕ → ℕ
log2 n = 63 - count_leading_zeros 64 n

-- a power of two, from 2^4 to 2^22: the numbers of slots that 01 allows
unfoldable pub SlotCount : ℕ → Type 0
SlotCount n = (n ≡ 2 ^ log2 n) × (4 ≤ log2 n) × (log2 n ≤ 22)

-- that it is one holds in one way only, as a ghost field asks
pub slot_count_once : (n : ℕ) → IsProp (SlotCount n)
unfolding SlotCount
slot_count_once n = hlevel props

-- so many numbers are the slots of a table, two for each, and the shift is the exponent of "divided by 2^(64 - log2 slots)"
pub record SlotTable (numbers shift : ℕ) : Type 0 where
  pub slot_count : SlotCount (numbers / 2)
  pub whole : numbers % 2 ≡ 0
  pub shifted : shift ≡ 64 - log2 (numbers / 2)

-- "Start slot: key × 0x9E3779B97F4A7C15, where the product is taken modulo 2^64, divided by 2^(64 - log2 slots)"
unfoldable pub start_slot : ℕ → ℕ → ℕ
start_slot slots key = key * 0x9E3779B97F4A7C15 % 2 ^ 64 / 2 ^ (64 - log2 slots)

-- "onward, wrapping"
unfoldable pub next_slot : ℕ → ℕ → ℕ
next_slot slots i = cond (eqb (i + 1) slots) 0 (i + 1)

-- "to the key or an empty slot": of at most n slots from i on the first whose low 48 bits are the key, or whose key is 0
unfoldable pub probe_from : ℕ → List ℕ → ℕ → ℕ → Result Probe Damaged
probe_from zero keys key i = Err damage
probe_from (suc n) keys key i =
    elim (eqb (get_or keys i 0 % 2 ^ 48) key) [
      | true ↦ Ok (Found i)
      | false ↦ elim (eqb (get_or keys i 0) 0) [ true ↦ Ok (Empty i) | false ↦ probe_from n keys key (next_slot (length keys) i) ]
    ]

-- a probe goes through all slots at most
unfoldable pub probe_of : List ℕ → ℕ → Result Probe Damaged
probe_of keys key = probe_from (length keys) keys key (start_slot (length keys) key)

-- ---- filter bits

-- "With h = character × 0x9E3779B1 modulo 2^32"
unfoldable pub filter_hash : ℕ → ℕ
filter_hash ch = ch * 0x9E3779B1 % 2 ^ 32

-- "bit 48 + floor(h/2^28) in its key and bit 24 + floor(h/2^25) mod 8 in its child"
unfoldable pub key_bit : ℕ → ℕ
key_bit ch = 48 + filter_hash ch / 2 ^ 28

unfoldable pub child_bit : ℕ → ℕ
child_bit ch = 24 + filter_hash ch / 2 ^ 25 % 8

-- ---- one step

-- "a child's low 24 bits are its node"; "parent 0 for the root"
unfoldable pub node_at : CharTrie → ParentRef → ℕ
node_at t Root = 0
node_at t (RootEntry i) = get_or t.root_children i 0 % 2 ^ 24
node_at t (Slot i) = get_or t.children i 0 % 2 ^ 24

-- "A first character below the root length uses the root table; any other step uses slots"
unfoldable pub from_root : CharTrie → ParentRef → ℕ → Bool
from_root t Root ch = ltb ch (length t.root_children)
from_root t (RootEntry i) ch = false
from_root t (Slot i) ch = false

-- "A root entry with child 0 .. empty"
abbrev pub root_step : CharTrie → ℕ → Step
root_step t ch = cond (eqb (get_or t.root_children ch 0) 0) (Ok None) (Ok (Some (RootEntry ch)))

abbrev pub step_by_probe : Result Probe Damaged → Step
step_by_probe (Ok (Found i)) = Ok (Some (Slot i))
step_by_probe (Ok (Empty i)) = Ok None
step_by_probe (Err d) = Err d

abbrev pub slot_step : CharTrie → ParentRef → ℕ → Step
slot_step t p ch = step_by_probe (probe_of t.keys (key_of (node_at t p) ch))

-- the step of an insertion, which "tests no bits"
unfoldable pub open_step : CharTrie → ParentRef → ℕ → Step
open_step t p ch = elim (from_root t p ch) [ true ↦ root_step t ch | false ↦ slot_step t p ch ]

-- the bits of a character at the place that a step starts from: both at a slot, the child's at a root entry, none at the root
unfoldable pub bits_at : CharTrie → ParentRef → ℕ → Bool
bits_at t Root ch = true
bits_at t (RootEntry i) ch = has_bit (get_or t.root_children i 0) (child_bit ch)
bits_at t (Slot i) ch = has_bit (get_or t.keys i 0) (key_bit ch) && has_bit (get_or t.children i 0) (child_bit ch)

-- "In lookups and cuts a step whose bit is missing finds nothing."
unfoldable pub tested_step : CharTrie → ParentRef → ℕ → Step
tested_step t p ch = elim (bits_at t p ch) [ true ↦ open_step t p ch | false ↦ Ok None ]

-- the same from what a walk has read of the place: the key of its slot, or all ones for a root entry, and its child
unfoldable pub step_from : List ℕ → ℕ → ℕ → ℕ → Step
step_from keys filter child ch =
    elim (has_bit filter (key_bit ch) && has_bit child (child_bit ch)) [ true ↦ step_by_probe (probe_of keys (key_of (child % 2 ^ 24) ch)) | false ↦ Ok None ]

-- ---- a word's steps

-- where the steps of a word lead from a place
unfoldable pub walk : CharTrie → ParentRef → List ℕ → Step
walk t p [] = Ok (Some p)
walk t p (c ∷ cs) = elim (tested_step t p c) [ Ok (Some q) ↦ walk t q cs | Ok None ↦ Ok None | Err d ↦ Err d ]

-- the word number at a place; the root has none
unfoldable pub word_at : ℕ → CharTrie → ParentRef → WordNumber
word_at used t Root = Ok None
word_at used t (RootEntry i) = word_number used (get_or t.root_words i no_word)
word_at used t (Slot i) = word_number used (get_or t.words i no_word)

-- what a lookup finds: what the word number says where the steps lead
unfoldable pub get_of : ℕ → CharTrie → List ℕ → WordNumber
get_of used t cs = elim (walk t Root cs) [ Ok (Some p) ↦ word_at used t p | Ok None ↦ Ok None | Err d ↦ Err d ]

-- ---- insertion: how far the word's steps are there

-- the last place that is there, with the characters whose steps are not
pub data Reach : Type 0 where
  Reached : ParentRef → List ℕ → Reach
  NoEnd : Reach

unfoldable pub reach : CharTrie → ParentRef → List ℕ → Reach
reach t p [] = Reached p []
reach t p (c ∷ cs) = elim (open_step t p c) [ Ok (Some q) ↦ reach t q cs | Ok None ↦ Reached p (c ∷ cs) | Err d ↦ NoEnd ]

-- "from its first absent step on every step is new": the slots that it takes, and the nodes
unfoldable pub new_slots : CharTrie → ParentRef → List ℕ → ℕ
new_slots t p [] = 0
new_slots t p (c ∷ cs) = cond (from_root t p c) (length cs) (suc (length cs))

abbrev pub new_nodes : List ℕ → ℕ
new_nodes cs = length cs

-- ---- insertion: what is written

-- "the parent's slot gains" the bits of a character; "a root entry gains the second only, the root neither"
unfoldable pub with_bits : CharTrie → ParentRef → ℕ → CharTrie
with_bits t Root ch = t
with_bits t (RootEntry i) ch = record {
  root_children = set t.root_children i (with_bit (get_or t.root_children i 0) (child_bit ch));
  root_words = t.root_words;
  keys = t.keys;
  children = t.children;
  words = t.words;
}
with_bits t (Slot i) ch = record {
  root_children = t.root_children;
  root_words = t.root_words;
  keys = set t.keys i (with_bit (get_or t.keys i 0) (key_bit ch));
  children = set t.children i (with_bit (get_or t.children i 0) (child_bit ch));
  words = t.words;
}

-- "Its last step gets the record number."
unfoldable pub with_word : CharTrie → ParentRef → ℤ → CharTrie
with_word t Root number = t
with_word t (RootEntry i) number = record {
  root_children = t.root_children;
  root_words = set t.root_words i number;
  keys = t.keys;
  children = t.children;
  words = t.words;
}
with_word t (Slot i) number = record {
  root_children = t.root_children;
  root_words = t.root_words;
  keys = t.keys;
  children = t.children;
  words = set t.words i number;
}

-- "starts with word number -1 and no bits, and takes the next node number"
abbrev pub new_root_entry : CharTrie → ℕ → ℕ → CharTrie
new_root_entry t ch node = record {
  root_children = set t.root_children ch node;
  root_words = set t.root_words ch no_word;
  keys = t.keys;
  children = t.children;
  words = t.words;
}

abbrev pub new_slot : CharTrie → ℕ → ℕ → ℕ → CharTrie
new_slot t i key node = record {
  root_children = t.root_children;
  root_words = t.root_words;
  keys = set t.keys i key;
  children = set t.children i node;
  words = set t.words i no_word;
}

-- "and, among slots, the first empty one from its start"
unfoldable pub empty_from : ℕ → List ℕ → ℕ → Result ℕ Damaged
empty_from zero keys i = Err damage
empty_from (suc n) keys i = elim (eqb (get_or keys i 0) 0) [ true ↦ Ok i | false ↦ empty_from n keys (next_slot (length keys) i) ]

unfoldable pub empty_slot : List ℕ → ℕ → Result ℕ Damaged
empty_slot keys key = empty_from (length keys) keys (start_slot (length keys) key)

-- new steps for all of these characters, the first of them from a place that is there; the number is the record's
unfoldable pub extend : CharTrie → ParentRef → List ℕ → ℕ → ℤ → CharTrie
extend t p [] node number = with_word t p number
extend t p (c ∷ cs) node number =
    elim (from_root t p c) [
      | true ↦ extend (new_root_entry t c node) (RootEntry c) cs (node + 1) number
      | false ↦ elim (empty_slot t.keys (key_of (node_at t p) c)) [
        | Ok i ↦ extend (new_slot (with_bits t p c) i (key_of (node_at t p) c) node) (Slot i) cs (node + 1) number
        | Err d ↦ t
      ]
    ]

-- a word's insertion from a place on: bits at each step that is there, then new steps
unfoldable pub insert : CharTrie → ParentRef → List ℕ → ℕ → ℤ → CharTrie
insert t p [] node number = with_word t p number
insert t p (c ∷ cs) node number =
    elim (open_step t p c) [ Ok (Some q) ↦ insert (with_bits t p c) q cs node number | Ok None ↦ extend t p (c ∷ cs) node number | Err d ↦ t ]
