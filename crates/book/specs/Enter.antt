-- How a word enters, additions and loads: document 01, "A line enters: `load_dict`, `load_entry`, `add_word`", with the order of the refusals of
-- "What each call returns".
-- Assumes nothing.
use Rattle.std.specs.Prelude.{ℕ, suc, ◌+◌, ◌-◌, ◌*◌, ◌/◌, ◌^◌, Bool, cond, List, [], ◌∷◌, eqb, leb, ltb, pos, length, get_or, set, Ok, Err, Some, None, Result}
use Rattle.std.proofs.Math.Option.{Option, none, some}
use Rattle.utf8.specs.Text.{chars_of}
use Rattle.lines.specs.Lines.{lines_of, malformed, blank, bad_frequency, entry, meaning_of}
use Rattle.score.specs.Logarithm.{log_float}
use Rattle.trie.specs.declared.ParentRef.{ParentRef}
use Rattle.trie.specs.declared.ParentRef.TheVariants.{Root}
use Rattle.trie.specs.Trie.{get_of, word_at, Reach, Reached, NoEnd, reach, new_slots, new_nodes, insert, WordNumber}
use Rattle.book.specs.declared.Head.{Head}
use Rattle.book.specs.declared.LoadError.{LoadError}
use Rattle.book.specs.declared.Refusal.{Refusal}
use Rattle.book.specs.declared.Refusal.TheVariants.{BadAreas, TooLong, Malformed, BadFrequency, TotalTooLarge, RecordsFull, SlotsFull, Damaged}
use Rattle.book.specs.declared.Entering.{Entering}
use Rattle.book.specs.declared.Entering.TheVariants.{Replace, Insert}
use Rattle.book.specs.Returns.{Book, frequency_at, sized, longest_text, greatest_total, greatest_next, damaged_head, Outcome}

-- ---- a word enters: the decision

-- how it enters, or what it is refused with
abbrev pub Decision : Type 0
Decision = Result Entering Refusal

-- "A held word gets the new frequency": its record's old one is taken off the total and the new one added. "a replaced frequency above the total"
-- is damage
abbrev pub replace_by : ℕ → ℕ → ℕ → ℕ → Decision
replace_by total old n frequency =
    cond (ltb total old) (Err Damaged) (cond (leb (total - old + frequency) greatest_total) (Ok (Replace n (total - old + frequency))) (Err TotalTooLarge))

abbrev pub decide_held : Book → ℕ → ℕ → Decision
decide_held b n frequency = replace_by b.head.total (frequency_at b n) n frequency

-- "new word, every record taken", of so many records; the record that a new word takes
abbrev pub no_record : Head → ℕ → Bool
no_record h records = leb records h.records

abbrev pub next_record : Head → ℕ
next_record h = h.records

-- the records used once it has taken it
abbrev pub records_after_new : Head → ℕ
records_after_new h = h.records + 1

-- slots whose key is 0
unfoldable pub empty_slots : List ℕ → ℕ
empty_slots [] = 0
empty_slots (k ∷ ks) = cond (eqb k 0) (suc (empty_slots ks)) (empty_slots ks)

-- a new word that takes so many slots and nodes: 5, 6, 7; then "fewer empty slots than a new word needs, or next node plus its new nodes above
-- 16,777,215", "tested right after 7"
abbrev pub insert_by : Head → ℕ → List ℕ → ℕ → ℕ → ℕ → Decision
insert_by h records keys slots nodes frequency =
    cond (ltb greatest_total (h.total + frequency)) (Err TotalTooLarge)
    (cond (no_record h records) (Err RecordsFull)
    (cond (ltb (length keys * 6) ((h.slots + slots) * 8)) (Err SlotsFull)
    (cond (ltb (empty_slots keys) slots) (Err Damaged)
    (cond (ltb greatest_next (h.next + nodes)) (Err Damaged)
    (Ok (Insert slots nodes (h.total + frequency)))))))

abbrev pub decide_new : Book → ℕ → ℕ → ℕ → Decision
decide_new b slots nodes frequency = insert_by b.head (length b.records) b.trie.keys slots nodes frequency

-- the insertion's own walk, which tests no bits; where every step is there, a bad word number at the last one is damage
abbrev pub decide_reached : Book → ParentRef → List ℕ → WordNumber → ℕ → Decision
decide_reached b p [] (Err d) frequency = Err Damaged
decide_reached b p [] (Ok None) frequency = decide_new b 0 0 frequency
decide_reached b p [] (Ok (Some n)) frequency = decide_new b 0 0 frequency
decide_reached b p (c ∷ cs) w frequency = decide_new b (new_slots b.trie p (c ∷ cs)) (new_nodes (c ∷ cs)) frequency

abbrev pub decide_absent : Book → Reach → ℕ → Decision
decide_absent b NoEnd frequency = Err Damaged
decide_absent b (Reached p rest) frequency = decide_reached b p rest (word_at b.head.records b.trie p) frequency

unfoldable pub decide : Book → List ℕ → ℕ → Decision
decide b word frequency =
    elim (get_of b.head.records b.trie word) [
      | Ok (Some n) ↦ decide_held b n frequency
      | Ok None ↦ decide_absent b (reach b.trie Root word) frequency
      | Err d ↦ Err Damaged
    ]

-- ---- a word enters: what is written

-- a head with another total
abbrev pub with_total : Head → ℕ → Head
with_total h total = record { records = h.records; slots = h.slots; next = h.next; total = total }

-- the cell of a new word's record: its frequency, and 0 in the high half
abbrev pub new_cell : ℕ → ℕ
new_cell frequency = frequency

-- a cell with another frequency: the high half stays
unfoldable pub cell_with_frequency : ℕ → ℕ → ℕ
cell_with_frequency cell frequency = cell / 2 ^ 32 * 2 ^ 32 + frequency

-- "A held word gets the new frequency": its record's frequency, and the logarithm
unfoldable pub replaced : Book → ℕ → ℕ → ℕ → Book
replaced b n frequency total = record {
  head = with_total b.head total;
  trie = b.trie;
  records = set b.records n (cell_with_frequency (get_or b.records n 0) frequency);
  logarithms = set b.logarithms n (log_float frequency);
}

unfoldable pub inserted : Book → List ℕ → ℕ → ℕ → ℕ → ℕ → Book
inserted b word frequency slots nodes total = record {
  head = record {
    records = records_after_new b.head;
    slots = b.head.slots + slots;
    next = b.head.next + nodes;
    total = total;
  };
  trie = insert b.trie Root word b.head.next (pos (next_record b.head));
  records = set b.records (next_record b.head) (new_cell frequency);
  logarithms = set b.logarithms (next_record b.head) (log_float frequency);
}

abbrev pub written : Book → List ℕ → ℕ → Decision → Book
written b word frequency (Err r) = b
written b word frequency (Ok (Replace n total)) = replaced b n frequency total
written b word frequency (Ok (Insert slots nodes total)) = inserted b word frequency slots nodes total

abbrev pub outcome_of : Decision → Outcome
outcome_of (Err r) = Err r
outcome_of (Ok (Replace n total)) = Ok tt
outcome_of (Ok (Insert slots nodes total)) = Ok tt

-- ---- add: "1, 2, 3, empty word (0, frequency 0, book unchanged), 4, 8, 5, 6, 7"; "Add returns the frequency; refused, 0."

pub record AddAnswer : Type 0 where
  pub outcome : Outcome
  pub frequency : ℕ
  pub book : Book

abbrev pub add_answer : Outcome → ℕ → Book → AddAnswer
add_answer o frequency b = record { outcome = o; frequency = frequency; book = b }

-- the same from what the code returns, and the book
abbrev pub added : Result ℕ Refusal → Book → AddAnswer
added (Ok frequency) b = add_answer (Ok tt) frequency b
added (Err r) b = add_answer (Err r) 0 b

abbrev pub add_refused : Book → Outcome → AddAnswer
add_refused b o = add_answer o 0 b

abbrev pub add_by : Book → List ℕ → ℕ → Decision → AddAnswer
add_by b word frequency (Err r) = add_refused b (Err r)
add_by b word frequency (Ok (Replace n total)) = add_answer (Ok tt) frequency (replaced b n frequency total)
add_by b word frequency (Ok (Insert slots nodes total)) = add_answer (Ok tt) frequency (inserted b word frequency slots nodes total)

abbrev pub add_chars : Book → Option (List ℕ) → ℕ → AddAnswer
add_chars b none frequency = add_refused b (Err Malformed)
add_chars b (some []) frequency = add_refused b (Ok tt)
add_chars b (some (c ∷ cs)) frequency =
    cond (leb frequency greatest_total)
    (cond (damaged_head b) (add_refused b (Err Damaged)) (add_by b (c ∷ cs) frequency (decide b (c ∷ cs) frequency)))
    (add_refused b (Err BadFrequency))

unfoldable pub add_of : Book → List ℕ → ℕ → AddAnswer
add_of b word frequency =
    cond (sized b) (cond (leb (length word) longest_text) (add_chars b (chars_of word) frequency) (add_refused b (Err TooLong))) (add_refused b (Err BadAreas))

-- ---- load: "1, 2, then per line 3, 4, 8, 5, 6, 7"; "a load tests the head at each line that has a word"
-- "Load returns its line too: the refused one (from 1), 0 with 1 or 2, else the lines read."

pub record LoadAnswer : Type 0 where
  pub outcome : Outcome
  pub line : ℕ
  pub book : Book

abbrev pub load_answer : Outcome → ℕ → Book → LoadAnswer
load_answer o line b = record { outcome = o; line = line; book = b }

-- the same from what the code returns, and the book
abbrev pub loaded : Result ℕ LoadError → Book → LoadAnswer
loaded (Ok lines) b = load_answer (Ok tt) lines b
loaded (Err e) b = load_answer (Err e.refusal) e.line b

-- a word of a line
abbrev pub enter : Book → List ℕ → ℕ → Decision
enter b word frequency = cond (damaged_head b) (Err Damaged) (decide b word frequency)

-- the lines after the first so many
unfoldable pub load_lines : Book → ℕ → List (List ℕ) → LoadAnswer
load_lines b n [] = load_answer (Ok tt) n b
load_lines b n (l ∷ ls) =
    elim (meaning_of l) [
      | malformed ↦ load_answer (Err Malformed) (n + 1) b
      | blank ↦ load_lines b (n + 1) ls
      | bad_frequency ↦ load_answer (Err BadFrequency) (n + 1) b
      | entry word frequency ↦ elim (enter b word frequency) [
        | Err r ↦ load_answer (Err r) (n + 1) b
        | Ok (Replace r total) ↦ load_lines (replaced b r frequency total) (n + 1) ls
        | Ok (Insert slots nodes total) ↦ load_lines (inserted b word frequency slots nodes total) (n + 1) ls
      ]
    ]

unfoldable pub load_of : Book → List ℕ → LoadAnswer
load_of b text =
    cond (sized b) (cond (leb (length text) longest_text) (load_lines b 0 (lines_of text)) (load_answer (Err TooLong) 0 b)) (load_answer (Err BadAreas) 0 b)
