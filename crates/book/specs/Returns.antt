-- Books, their sizes and their damage, and what a lookup returns: document 01, "What each call returns".
-- Assumes nothing.
use Rattle.std.specs.Prelude.{ℕ, ◌*◌, ◌%◌, ◌^◌, Bool, cond, ◌&&◌, ◌||◌, List, [], ◌∷◌, eqb, leb, ltb, Float, pos, length, get_or, replicate, Some, None, Result, Ok, Err}
use Rattle.std.specs.Prelude as Std
use Rattle.std.proofs.Math.Option.{Option, none, some}
use Rattle.utf8.specs.Text.{chars_of}
use Rattle.lines.specs.declared.LineError.{LineError}
use Rattle.lines.specs.declared.LineError.TheVariants as LineError
use Rattle.trie.specs.SlotCounts.{slot_count}
use Rattle.trie.specs.Trie.{CharTrie, no_word, get_of, WordNumber}
use Rattle.score.specs.Scores.{whole, float_of}
use Rattle.book.specs.declared.Head.{Head}
use Rattle.book.specs.declared.Refusal.{Refusal}
use Rattle.book.specs.declared.Refusal.TheVariants.{BadAreas, TooLong, Malformed, BadFrequency, TotalTooLarge, RecordsFull, SlotsFull, Damaged}
use Rattle.book.specs.declared.Refusal.TheVariants.{WorkTooShort, EdgesFull, TokensFull}

-- what a line that cannot be read is refused with: "3", "4"
abbrev pub refusal_of_line : LineError → Refusal
refusal_of_line LineError.Malformed = Malformed
refusal_of_line LineError.BadFrequency = BadFrequency

-- a call is done, or refused for a reason of the table
abbrev pub Outcome : Type 0
Outcome = Result Unit Refusal

-- the number that the table gives each
abbrev pub number_of : Outcome → ℕ
number_of (Ok done) = 0
number_of (Err BadAreas) = 1
number_of (Err TooLong) = 2
number_of (Err Malformed) = 3
number_of (Err BadFrequency) = 4
number_of (Err TotalTooLarge) = 5
number_of (Err RecordsFull) = 6
number_of (Err SlotsFull) = 7
number_of (Err Damaged) = 8
number_of (Err WorkTooShort) = 9
number_of (Err EdgesFull) = 10
number_of (Err TokensFull) = 11

abbrev pub is_done : Outcome → Bool
is_done o = eqb (number_of o) 0

-- "A book is a head .., a root table .., slots .., and .. records", "a record a frequency and its logarithm as a double"
pub record Book : Type 0 where
  pub head : Head
  pub trie : CharTrie
  pub records : List ℕ
  pub logarithms : List Float

-- a record's cell, of 64 bits: its frequency in the low 32. Nothing here reads the high 32
unfoldable pub cell_frequency : ℕ → ℕ
cell_frequency cell = cell % 2 ^ 32

abbrev pub frequency_at : Book → ℕ → ℕ
frequency_at b n = cell_frequency (get_or b.records n 0)

-- ---- sizes

-- "1 to 65,536 entries"
abbrev pub most_entries : ℕ
most_entries = 65536

-- "1 to 1,048,576 records"
abbrev pub most_records : ℕ
most_records = 1048576

-- "a root table of 1 to 65,536 entries, a power of two of slots from 16 to 4,194,304, and 1 to 1,048,576 records";
-- "slices of one part of a book must be equally long": the lengths of the root's two, the slots' three and the records' two
unfoldable pub allowed : ℕ → ℕ → ℕ → ℕ → ℕ → ℕ → ℕ → Bool
allowed root_children root_words keys children words records logarithms =
    leb 1 root_children && leb root_children most_entries && eqb root_words root_children
    && slot_count keys && eqb children keys && eqb words keys
    && leb 1 records && leb records most_records && eqb logarithms records

abbrev pub sized : Book → Bool
sized b =
    allowed (length b.trie.root_children) (length b.trie.root_words)
    (length b.trie.keys) (length b.trie.children) (length b.trie.words)
    (length b.records) (length b.logarithms)

-- "text over 16,777,215 bytes"
abbrev pub longest_text : ℕ
longest_text = 16777215

-- ---- the head

-- "4,294,967,295", the greatest total and the greatest frequency
abbrev pub greatest_total : ℕ
greatest_total = 4294967295

-- "next node outside 1 to 16,777,215": the last node that is given out is the one before it
abbrev pub greatest_next : ℕ
greatest_next = 16777215

-- "Damage: head values beyond the areas, slots used × 8 above slots × 6, total above 4,294,967,295, next node outside 1 to 16,777,215"
unfoldable pub head_damaged : Head → ℕ → ℕ → Bool
head_damaged h records slots =
    ltb slots h.slots || ltb records h.records || ltb (slots * 6) (h.slots * 8)
    || ltb greatest_total h.total || ltb h.next 1 || ltb greatest_next h.next

abbrev pub damaged_head : Book → Bool
damaged_head b = head_damaged b.head (length b.records) (length b.trie.keys)

-- ---- prepare

-- "Empty: zeros, next node 1, every word number -1."
abbrev pub empty_head : Head
empty_head = record { records = 0; slots = 0; next = 1; total = 0 }

unfoldable pub empty_book : ℕ → ℕ → ℕ → Book
empty_book roots slots records = record {
  head = empty_head;
  trie = record {
    root_children = replicate roots 0;
    root_words = replicate roots no_word;
    keys = replicate slots 0;
    children = replicate slots 0;
    words = replicate slots no_word;
  };
  records = replicate records 0;
  logarithms = replicate records (float_of (whole (pos 0)));
}

-- what preparing answers, and the areas afterwards
pub record PrepareAnswer : Type 0 where
  pub prepared : Result Head Refusal
  pub trie : CharTrie
  pub records : List ℕ
  pub logarithms : List Float

abbrev pub prepare_answer : Result Head Refusal → CharTrie → List ℕ → List Float → PrepareAnswer
prepare_answer p t r l = record { prepared = p; trie = t; records = r; logarithms = l }

-- "Prepare: 1", or an empty book of the areas' sizes
abbrev pub emptied : Book → PrepareAnswer
emptied b = prepare_answer (Ok b.head) b.trie b.records b.logarithms

unfoldable pub prepare_of : CharTrie → List ℕ → List Float → PrepareAnswer
prepare_of t r l =
    cond (allowed (length t.root_children) (length t.root_words) (length t.keys) (length t.children) (length t.words) (length r) (length l))
    (emptied (empty_book (length t.root_children) (length t.keys) (length r)))
    (prepare_answer (Err BadAreas) t r l)

-- ---- lookup: "1, 2, 3, empty word (absent), 8"

-- the frequency, or none where the word is absent
abbrev pub Found : Type 0
Found = Result (Std.Option ℕ) Refusal

abbrev pub found_by : Book → WordNumber → Found
found_by b (Ok (Some n)) = Ok (Some (frequency_at b n))
found_by b (Ok None) = Ok None
found_by b (Err d) = Err Damaged

abbrev pub lookup_chars : Book → Option (List ℕ) → Found
lookup_chars b none = Err Malformed
lookup_chars b (some []) = Ok None
lookup_chars b (some (c ∷ cs)) =
    cond (damaged_head b) (Err Damaged) (found_by b (get_of b.head.records b.trie (c ∷ cs)))

unfoldable pub lookup_of : Book → List ℕ → Found
lookup_of b word =
    cond (sized b) (cond (leb (length word) longest_text) (lookup_chars b (chars_of word)) (Err TooLong)) (Err BadAreas)
