-- An addition by the answers of what it calls: a refusal by the tests and the empty word are answered at once, and for a word that has passed and a
-- frequency that fits the answer is that of entering the word.
-- Assumes nothing.
use Rattle.std.specs.Prelude.{Result, Ok, Err}
use mathlib.Core.Path.{◌≡◌, refl, ap, ◌∙◌}
use mathlib.Core.Bool.{Bool, true, false, cond}
use mathlib.Core.List.{List, [], ◌∷◌}
use mathlib.Core.Option.{Option, none, some}
use Prim.Native.Nat.{ℕ, zero, suc, ◌≤◌, ◌<◌}
use borrow.Author.Tests.{le-leb, lt-leb}
use lib.Dec.{leb}
use lib.Ieee.{Float}
use lib.ListN.{length}
use Rattle.utf8.specs.Text.{chars_of}
use Rattle.trie.specs.Trie.{CharTrie, trie_of}
use Rattle.book.specs.declared.Entering.TheVariants.{Replace, Insert}
use Rattle.book.specs.declared.Head.{Head}
use Rattle.book.specs.declared.Refusal.{Refusal}
use Rattle.book.specs.declared.Refusal.TheVariants.{BadAreas, TooLong, BadFrequency}
use Rattle.book.specs.Areas.{areas_allowed, book_of, book_in}
use Rattle.book.specs.Returns.{Book, is_done, sized, longest_text, greatest_total, damaged_head, Outcome}
use Rattle.book.specs.Enter.{decide, AddAnswer, add_answer, added, add_refused, add_by, add_chars, add_of, enter, Decision}
use Rattle.book.specs.Numbers.{added_returns, add_returns}
use Rattle.book.proofs.Numbers.{added_in_numbers}
use Rattle.book.proofs.Outcomes.{not_done}
use Rattle.lookup.specs.Tests.{tested_chars, tested_word}
use Rattle.lookup.proofs.Lookups.{tested_lent}
use Rattle.entry.specs.Texts.{EnterAnswer, enter_answer, enter_by, enter_text}

-- ---- a word that enters

-- what is answered, by what entering the word answers
abbrev add_on : EnterAnswer → ℕ → AddAnswer
add_on e frequency = add_answer e.outcome (cond (is_done e.outcome) frequency 0) e.book

by_decision : (b : Book) (word : List ℕ) (frequency : ℕ) (d : Decision) → add_on (enter_by b word frequency d) frequency ≡ add_by b word frequency d
by_decision b word frequency (Err r) = rw (not_done r)
by_decision b word frequency (Ok (Replace n total)) = refl
by_decision b word frequency (Ok (Insert slots nodes total)) = refl

-- the test of the head, before the decision or within it
by_head : (b : Book) (word : List ℕ) (frequency : ℕ)
    → add_by b word frequency (enter b word frequency)
    ≡ cond (damaged_head b) (add_refused b (Err Refusal.Damaged)) (add_by b word frequency (decide b word frequency))
by_head b word frequency = go (damaged_head b)
  where
    go : (t : Bool) → add_by b word frequency (cond t (Err Refusal.Damaged) (decide b word frequency))
        ≡ cond t (add_refused b (Err Refusal.Damaged)) (add_by b word frequency (decide b word frequency))
    go true = refl
    go false = refl

by_entering : (b : Book) (word : List ℕ) (frequency : ℕ)
    → add_on (enter_text b (some word) frequency) frequency
    ≡ cond (damaged_head b) (add_refused b (Err Refusal.Damaged)) (add_by b word frequency (decide b word frequency))
unfolding enter_text
by_entering b word frequency = by_decision b word frequency (enter b word frequency) ∙ by_head b word frequency

-- ---- the tests

-- what is answered, by the tests' answer
abbrev add_tested : Book → List ℕ → ℕ → Result ℕ Refusal → AddAnswer
add_tested b word frequency (Err r) = add_refused b (Err r)
add_tested b word frequency (Ok zero) = add_refused b (Ok tt)
add_tested b word frequency (Ok (suc n)) = cond (leb frequency greatest_total) (add_on (enter_text b (chars_of word) frequency) frequency) (add_refused b (Err BadFrequency))

module _ (b : Book) (word : List ℕ) (frequency : ℕ) where
  by_chars : (o : Option (List ℕ)) → chars_of word ≡ o → add_tested b word frequency (tested_chars o) ≡ add_chars b o frequency
  by_chars none e = refl
  by_chars (some []) e = refl
  by_chars (some (c ∷ cs)) e = rw (e, by_entering b (c ∷ cs) frequency)

  by_length : (t : Bool) → add_tested b word frequency (cond t (tested_chars (chars_of word)) (Err TooLong))
      ≡ cond t (add_chars b (chars_of word) frequency) (add_refused b (Err TooLong))
  by_length true = by_chars (chars_of word) refl
  by_length false = refl

  by_sizes : (t : Bool)
      → add_tested b word frequency (cond t (cond (leb (length word) longest_text) (tested_chars (chars_of word)) (Err TooLong)) (Err BadAreas))
      ≡ cond t (cond (leb (length word) longest_text) (add_chars b (chars_of word) frequency) (add_refused b (Err TooLong))) (add_refused b (Err BadAreas))
  by_sizes true = by_length (leb (length word) longest_text)
  by_sizes false = refl

  by_tests : {t : Result ℕ Refusal} → t ≡ tested_word (sized b) word → add_tested b word frequency t ≡ add_of b word frequency
  unfolding tested_word add_of
  by_tests tested = ap (add_tested b word frequency) tested ∙ by_sizes (sized b)

-- ---- the answers, as they are given: with the head and the areas as they are left

module _ (head : Head) (trie : CharTrie) (records : List ℕ) (l : List Float) (word : List ℕ) (frequency : ℕ) {t : Result ℕ Refusal}
    (tested : t ≡ tested_word (sized (book_of head trie records l)) word) where
  pub refused : {r : Refusal} → t ≡ Err r → added (Err r) (book_of head trie records l) ≡ add_of (book_of head trie records l) word frequency
  refused e = rw e at (by_tests (book_of head trie records l) word frequency tested)

  module _ {n : ℕ} (e : t ≡ Ok n) where
    pub empty : n ≡ 0 → added (Ok 0) (book_of head trie records l) ≡ add_of (book_of head trie records l) word frequency
    empty z = rw (e, z) at (by_tests (book_of head trie records l) word frequency tested)

    module _ (some_chars : n ≡ 0 → ⊥) where
      by_word : cond (leb frequency greatest_total) (add_on (enter_text (book_of head trie records l) (chars_of word) frequency) frequency)
          (add_refused (book_of head trie records l) (Err BadFrequency)) ≡ add_of (book_of head trie records l) word frequency
      by_word = go n refl
        where
          go : (m : ℕ) → n ≡ m → cond (leb frequency greatest_total) (add_on (enter_text (book_of head trie records l) (chars_of word) frequency) frequency)
              (add_refused (book_of head trie records l) (Err BadFrequency)) ≡ add_of (book_of head trie records l) word frequency
          go zero z = absurd (some_chars z)
          go (suc m) z = rw (e, z) at (by_tests (book_of head trie records l) word frequency tested)

      pub too_frequent : greatest_total < frequency → added (Err BadFrequency) (book_of head trie records l) ≡ add_of (book_of head trie records l) word frequency
      too_frequent g = rw (lt-leb frequency greatest_total g) at by_word

      module _ (fits : frequency ≤ greatest_total) (b : Book) {o : Outcome}
          (enters : enter_answer o b ≡ enter_text (book_of head trie records l) (chars_of word) frequency) where
        answered : add_on (enter_answer o b) frequency ≡ add_of (book_of head trie records l) word frequency
        answered = ap (λ (x : EnterAnswer). add_on x frequency) enters ∙ (rw (le-leb frequency greatest_total fits) at by_word)

        pub entered_lem : {done : Unit {0}} → o ≡ Ok done → added (Ok frequency) b ≡ add_of (book_of head trie records l) word frequency
        entered_lem q = rw q at answered

        pub not_entered : {r : Refusal} → o ≡ Err r → added (Err r) b ≡ add_of (book_of head trie records l) word frequency
        not_entered {r} q = rw (q, not_done r) at answered

-- ---- a frequency over the limit, of the book as it is lent, and in numbers

module _ (head : Head) (roots slots records : List ℕ) (l : List Float) (word : List ℕ) (frequency : ℕ) {t : Result ℕ Refusal}
    (tested : t ≡ tested_word (areas_allowed (length roots) (length slots) (length records) (length l)) word) {n : ℕ} (e : t ≡ Ok n)
    (some_chars : n ≡ 0 → ⊥) where
  pub frequent_refused : greatest_total < frequency
      → added (Err BadFrequency) (book_in head roots slots records l) ≡ add_of (book_in head roots slots records l) word frequency
  frequent_refused g = too_frequent head (trie_of roots slots) records l word frequency (tested_lent head roots slots records l word tested) e some_chars g

  pub frequent_returned : greatest_total < frequency → added_returns (Err BadFrequency) ≡ add_returns (book_in head roots slots records l) word frequency
  frequent_returned g = (added_in_numbers (Err BadFrequency) (book_in head roots slots records l) (frequent_refused g)).1
