-- Each export by its test and its call: a head of another length is refused and nothing changed; else the call's answer, in numbers.
-- Assumes nothing.
use Rattle.std.specs.Prelude.{Result, Ok, Err}
use mathlib.Core.Path.{◌≡◌, refl, sym, ap, ◌∙◌}
use mathlib.Core.Bool.{Bool, true, false, ◌&&◌}
use mathlib.Core.List.{List}
use Prim.Native.Nat.{ℕ, ◌≤◌, ◌<◌}
use borrow.Author.Tests.{eq-eqb, ne_eqb, le-leb, lt-leb}
use lib.Dec.{eqb}
use lib.Ieee.{Float}
use lib.ListN.{length}
use Rattle.trie.specs.Trie.{CharTrie}
use Rattle.book.specs.declared.Head.{Head}
use Rattle.book.specs.declared.LoadError.{LoadError}
use Rattle.book.specs.declared.Refusal.{Refusal}
use Rattle.book.specs.Areas.{book_of}
use Rattle.book.specs.Returns.{Book, number_of, Found, PrepareAnswer, prepare_answer, prepare_of}
use Rattle.book.specs.Enter.{LoadAnswer, AddAnswer, loaded, load_of, added, add_of}
use Rattle.book.specs.Numbers.{found_returns, lookup_returns}
use Rattle.cuts.specs.declared.TokenizeMode.{TokenizeMode}
use Rattle.cuts.specs.declared.CutError.{CutError}
use Rattle.cuts.specs.Cuts.{CutAnswer, cut_answer, tested_book, begins, cut_of, cut_for_search_of, tokenize_of, cut_all_of}
use Rattle.numbers.specs.declared.FoundNumbers.{FoundNumbers}
use Rattle.numbers.specs.Numbers.{head_length, head_of, head_numbers, found_numbers, found_as, search_mode, is_mode, mode_of}
use Rattle.tongsvale.specs.Exports.{bad_areas, exported, prepared_as, prepare_export, loaded_as, load_export, added_as, add_export, lookup_export, cut_numbers, cut_where, cut_export}
use Rattle.tongsvale.specs.Exports.{cut_for_search_export, tokenize_export, cut_all_export, cut_begins}

module _ (h : List ℕ) (t : CharTrie) (r : List ℕ) (l : List Float) where
  -- ---- a head of another length

  module _ (other : length h ≡ head_length → ⊥) (n : ℕ) (number : n ≡ bad_areas) where
    pub prepare_refused : exported n 0 h t r l ≡ prepare_export h t r l
    unfolding prepare_export
    prepare_refused = rw (number, ne_eqb (length h) head_length other)

    pub load_refused : (text : List ℕ) → exported n 0 h t r l ≡ load_export h t r l text
    unfolding load_export
    load_refused text = rw (number, ne_eqb (length h) head_length other)

    pub add_refused_lem : (word : List ℕ) (frequency : ℕ) → exported n 0 h t r l ≡ add_export h t r l word frequency
    unfolding add_export
    add_refused_lem word frequency = rw (number, ne_eqb (length h) head_length other)

    pub lookup_refused : (word : List ℕ) → found_numbers n 0 0 ≡ lookup_export h t r l word
    unfolding lookup_export
    lookup_refused word = rw (number, ne_eqb (length h) head_length other)

  -- ---- a head of four numbers

  module _ (four : length h ≡ head_length) where
    prepare_by : (a : PrepareAnswer) → a ≡ prepare_of t r l → prepared_as h a ≡ prepare_export h t r l
    unfolding prepare_export
    prepare_by a e = rw (eq-eqb (length h) head_length four, ← e)

    pub prepare_ready : (p : Result Head Refusal) (t' : CharTrie) (r' : List ℕ) (l' : List Float) → prepare_answer p t' r' l' ≡ prepare_of t r l → (head : Head)
        → p ≡ Ok head
        → (h' : List ℕ) → h' ≡ head_numbers head → exported 0 0 h' t' r' l' ≡ prepare_export h t r l
    prepare_ready p t' r' l' e head ready h' written =
        rw written (ap (λ (x : Result Head Refusal). prepared_as h (prepare_answer x t' r' l')) (sym ready) ∙ prepare_by (prepare_answer p t' r' l') e)

    pub prepare_not : (p : Result Head Refusal) (t' : CharTrie) (r' : List ℕ) (l' : List Float) → prepare_answer p t' r' l' ≡ prepare_of t r l → (x : Refusal)
        → p ≡ Err x
        → (n : ℕ) → n ≡ number_of (Err x) → exported n 0 h t' r' l' ≡ prepare_export h t r l
    prepare_not p t' r' l' e x told n number = rw number
        (ap (λ (x : Result Head Refusal). prepared_as h (prepare_answer x t' r' l')) (sym told) ∙ prepare_by (prepare_answer p t' r' l') e)

    -- with the head that was read from it
    module _ (v : Head) (read : v ≡ head_of h) where
      -- a load, which leaves the book b
      module _ (text : List ℕ) (x : Result ℕ LoadError) (b : Book) (answers : loaded x b ≡ load_of (book_of v t r l) text)
          (h' : List ℕ) (written : h' ≡ head_numbers b.head) where
        loaded_by : (a : LoadAnswer) → a ≡ load_of (book_of v t r l) text → loaded_as a ≡ load_export h t r l text
        unfolding load_export
        loaded_by a e = rw (eq-eqb (length h) head_length four, ← read, ← e)

        pub all_loaded : {lines : ℕ} → x ≡ Ok lines → exported 0 lines h' b.trie b.records b.logarithms ≡ load_export h t r l text
        all_loaded {lines} q = rw written (loaded_by (loaded (Ok lines) b) (rw q at answers))

        pub load_stopped : {e : LoadError} → x ≡ Err e → (n : ℕ) → n ≡ number_of (Err e.refusal)
            → exported n e.line h' b.trie b.records b.logarithms ≡ load_export h t r l text
        load_stopped {e} q n number = rw (written, number) (loaded_by (loaded (Err e) b) (rw q at answers))

      -- an addition, which leaves the book b
      module _ (word : List ℕ) (frequency : ℕ) (x : Result ℕ Refusal) (b : Book) (answers : added x b ≡ add_of (book_of v t r l) word frequency)
          (h' : List ℕ) (written : h' ≡ head_numbers b.head) where
        added_by : (a : AddAnswer) → a ≡ add_of (book_of v t r l) word frequency → added_as a ≡ add_export h t r l word frequency
        unfolding add_export
        added_by a e = rw (eq-eqb (length h) head_length four, ← read, ← e)

        pub word_added : {f : ℕ} → x ≡ Ok f → exported 0 f h' b.trie b.records b.logarithms ≡ add_export h t r l word frequency
        word_added {f} q = rw written (added_by (added (Ok f) b) (rw q at answers))

        pub word_refused : {o : Refusal} → x ≡ Err o → (n : ℕ) → n ≡ number_of (Err o)
            → exported n 0 h' b.trie b.records b.logarithms ≡ add_export h t r l word frequency
        word_refused {o} q n number = rw (written, number) (added_by (added (Err o) b) (rw q at answers))

      pub found_by_lem : (word : List ℕ) (found : Found) → found_returns found ≡ lookup_returns (book_of v t r l) word
          → (x : FoundNumbers) → x ≡ found_as (found_returns found) → x ≡ lookup_export h t r l word
      unfolding lookup_export
      found_by_lem word found e x is = is ∙ ap found_as e ∙ rw (eq-eqb (length h) head_length four, ← read)

-- ---- the cuts

-- head or mode are none
refused_by : (such : Bool) (area : List ℕ) (a : CutAnswer) (n count : ℕ) → such ≡ false → n ≡ bad_areas → count ≡ 0
    → cut_numbers n count area ≡ cut_where such area a
refused_by such area a n count none number zero = rw (none, number, zero)

-- the token area of an answer is the one that the code leaves
area_left : (x : Result ℕ CutError) (after : List ℕ) → (cut_answer x after).written.area ≡ after
area_left (Ok count) after = refl
area_left (Err e) after = refl

-- the call's answer, with the number and the count that are returned
answered_by : (such : Bool) (area : List ℕ) (a : CutAnswer) (n count : ℕ) → such ≡ true → n ≡ number_of a.outcome → count ≡ a.written.count
    → cut_numbers n count a.written.area ≡ cut_where such area a
answered_by such area a n count holds number counted = rw (holds, number, counted)

module _ (h : List ℕ) (t : CharTrie) (r : List ℕ) (l : List Float) where
  module _ (n count : ℕ) (number : n ≡ bad_areas) (zero : count ≡ 0) (work : ℕ) (area sentence : List ℕ) where
    module _ (other : length h ≡ head_length → ⊥) where
      pub cut_refused : (room : ℕ) → cut_numbers n count area ≡ cut_export h t r l work room area sentence
      unfolding cut_export
      cut_refused room = refused_by (eqb (length h) head_length) area (cut_of (book_of (head_of h) t r l) work room area sentence) n count
          (ne_eqb (length h) head_length other) number zero

      pub cut_for_search_refused : (room : ℕ) → cut_numbers n count area ≡ cut_for_search_export h t r l work room area sentence
      unfolding cut_for_search_export
      cut_for_search_refused room = refused_by (eqb (length h) head_length) area (cut_for_search_of (book_of (head_of h) t r l) work room area sentence)
          n count (ne_eqb (length h) head_length other) number zero

      pub tokenize_refused : (room mode : ℕ) → cut_numbers n count area ≡ tokenize_export h t r l mode work room area sentence
      unfolding tokenize_export
      tokenize_refused room mode =
          refused_by (eqb (length h) head_length && is_mode mode) area (tokenize_of (mode_of mode) (book_of (head_of h) t r l) work room area sentence)
          n count (ap (λ (b : Bool). b && is_mode mode) (ne_eqb (length h) head_length other)) number zero

      pub cut_all_refused : cut_numbers n count area ≡ cut_all_export h t r l work area sentence
      unfolding cut_all_export
      cut_all_refused = refused_by (eqb (length h) head_length) area (cut_all_of (book_of (head_of h) t r l) work area sentence) n count
          (ne_eqb (length h) head_length other) number zero

    pub mode_refused : length h ≡ head_length → (room mode : ℕ) → search_mode < mode
        → cut_numbers n count area ≡ tokenize_export h t r l mode work room area sentence
    unfolding tokenize_export
    mode_refused four room mode beyond =
        refused_by (eqb (length h) head_length && is_mode mode) area (tokenize_of (mode_of mode) (book_of (head_of h) t r l) work room area sentence) n count
        (ap (λ (b : Bool). b && is_mode mode) (eq-eqb (length h) head_length four) ∙ lt-leb mode search_mode beyond) number zero

  -- with the head that was read from the slice
  module _ (four : length h ≡ head_length) (v : Head) (read : v ≡ head_of h) (work : ℕ) (area sentence : List ℕ) where
    module _ (x : Result ℕ CutError) (after : List ℕ) where
      -- what the call answers, with the token area as it leaves it
      abbrev a : CutAnswer
      a = cut_answer x after

      pub cut_by_lem : (room : ℕ) → a ≡ cut_of (book_of v t r l) work room area sentence → (n count : ℕ) → n ≡ number_of a.outcome → count ≡ a.written.count
          → cut_numbers n count after ≡ cut_export h t r l work room area sentence
      unfolding cut_export
      cut_by_lem room e n count number counted =
          ap (cut_numbers n count) (sym (area_left x after))
          ∙ answered_by (eqb (length h) head_length) area a n count (eq-eqb (length h) head_length four) number counted ∙ rw (← read, ← e)

      pub cut_for_search_by_lem : (room : ℕ) → a ≡ cut_for_search_of (book_of v t r l) work room area sentence → (n count : ℕ) → n ≡ number_of a.outcome
          → count ≡ a.written.count
          → cut_numbers n count after ≡ cut_for_search_export h t r l work room area sentence
      unfolding cut_for_search_export
      cut_for_search_by_lem room e n count number counted =
          ap (cut_numbers n count) (sym (area_left x after))
          ∙ answered_by (eqb (length h) head_length) area a n count (eq-eqb (length h) head_length four) number counted ∙ rw (← read, ← e)

      pub tokenize_by : (room mode : ℕ) → mode ≤ search_mode → (m : TokenizeMode) → m ≡ mode_of mode → a ≡ tokenize_of m (book_of v t r l) work room area sentence
          → (n count : ℕ) → n ≡ number_of a.outcome → count ≡ a.written.count
          → cut_numbers n count after ≡ tokenize_export h t r l mode work room area sentence
      unfolding tokenize_export
      tokenize_by room mode among m is e n count number counted =
          ap (cut_numbers n count) (sym (area_left x after))
          ∙ answered_by (eqb (length h) head_length && is_mode mode) area a n count
          (ap (λ (b : Bool). b && is_mode mode) (eq-eqb (length h) head_length four) ∙ le-leb mode search_mode among) number counted
          ∙ rw (← read, ← is, ← e)

      pub cut_all_by_lem : a ≡ cut_all_of (book_of v t r l) work area sentence → (n count : ℕ) → n ≡ number_of a.outcome → count ≡ a.written.count
          → cut_numbers n count after ≡ cut_all_export h t r l work area sentence
      unfolding cut_all_export
      cut_all_by_lem e n count number counted =
          ap (cut_numbers n count) (sym (area_left x after))
          ∙ answered_by (eqb (length h) head_length) area a n count (eq-eqb (length h) head_length four) number counted ∙ rw (← read, ← e)

    -- a cut that does not begin
    pub not_begun : cut_begins h t r l work area sentence ≡ false → begins (tested_book (book_of v t r l)) work area sentence ≡ false
    not_begun e =
        ap (λ (head : Head). begins (tested_book (book_of head t r l)) work area sentence) read
        ∙ sym (ap (λ (b : Bool). b && begins (tested_book (book_of (head_of h) t r l)) work area sentence) (eq-eqb (length h) head_length four))
        ∙ e

    pub not_begun_by : (mode : ℕ) → mode ≤ search_mode → (is_mode mode && cut_begins h t r l work area sentence) ≡ false
        → begins (tested_book (book_of v t r l)) work area sentence ≡ false
    not_begun_by mode among e = not_begun (sym (ap (λ (b : Bool). b && cut_begins h t r l work area sentence) (le-leb mode search_mode among)) ∙ e)
