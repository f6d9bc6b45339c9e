-- What the exports of the static library answer: what the public calls return, in document 01's numbers (`Returned`). A head crosses as four numbers in
-- a slice (`numbers/specs/Numbers.antt`); a slice of another length is an area outside the sizes, so 1.
-- Assumes nothing.
use Rattle.std.specs.Prelude.{ℕ, Bool, cond, ◌&&◌, List, eqb, Float, length, Result, Ok, Err}
use Rattle.trie.specs.Trie.{CharTrie}
use Rattle.book.specs.declared.Head.{Head}
use Rattle.book.specs.declared.Refusal.{Refusal}
use Rattle.book.specs.Areas.{book_of}
use Rattle.book.specs.Returns.{Book, number_of, PrepareAnswer, prepare_of}
use Rattle.book.specs.Enter.{LoadAnswer, AddAnswer, load_of, add_of}
use Rattle.book.specs.Numbers.{Returned, value, returned, prepared_returns, lookup_returns}
use Rattle.cuts.specs.Cuts.{CutAnswer, tested_book, begins, cut_of, cut_for_search_of, tokenize_of, cut_all_of}
use Rattle.numbers.specs.declared.FoundNumbers.{FoundNumbers}
use Rattle.numbers.specs.Numbers.{head_length, head_of, head_numbers, value_of, found_numbers, found_as, is_mode, mode_of}

-- the number of the interface: it goes up with every change of an area, a token or a call
abbrev pub abi : ℕ
abi = 2

-- a head of another length is refused
abbrev pub bad_areas : ℕ
bad_areas = 1

-- ---- calls that write a book: the number, the value, and the areas afterwards

pub record Exported : Type 0 where
  pub number : ℕ
  pub value : ℕ
  pub head : List ℕ
  pub trie : CharTrie
  pub records : List ℕ
  pub logarithms : List Float

abbrev pub exported : ℕ → ℕ → List ℕ → CharTrie → List ℕ → List Float → Exported
exported n v h t r l = record { number = n; value = v; head = h; trie = t; records = r; logarithms = l }

abbrev pub returned_with : Returned → List ℕ → CharTrie → List ℕ → List Float → Exported
returned_with r = exported r.number (value_of r.beside)

-- the head's slice afterwards: a refusal leaves it
abbrev pub head_after : List ℕ → Result Head Refusal → List ℕ
head_after h (Ok head) = head_numbers head
head_after h (Err r) = h

abbrev pub prepared_as : List ℕ → PrepareAnswer → Exported
prepared_as h a = returned_with (prepared_returns a.prepared) (head_after h a.prepared) a.trie a.records a.logarithms

unfoldable pub prepare_export : List ℕ → CharTrie → List ℕ → List Float → Exported
prepare_export h t r l =
    cond (eqb (length h) head_length) (prepared_as h (prepare_of t r l)) (exported bad_areas 0 h t r l)

abbrev pub with_book : Returned → Book → Exported
with_book r b = returned_with r (head_numbers b.head) b.trie b.records b.logarithms

abbrev pub loaded_as : LoadAnswer → Exported
loaded_as a = with_book (returned (number_of a.outcome) (value a.line)) a.book

unfoldable pub load_export : List ℕ → CharTrie → List ℕ → List Float → List ℕ → Exported
load_export h t r l text = cond (eqb (length h) head_length) (loaded_as (load_of (book_of (head_of h) t r l) text)) (exported bad_areas 0 h t r l)

abbrev pub added_as : AddAnswer → Exported
added_as a = with_book (returned (number_of a.outcome) (value a.frequency)) a.book

unfoldable pub add_export : List ℕ → CharTrie → List ℕ → List Float → List ℕ → ℕ → Exported
add_export h t r l word frequency = cond (eqb (length h) head_length) (added_as (add_of (book_of (head_of h) t r l) word frequency)) (exported bad_areas 0 h t r l)

-- ---- lookup

unfoldable pub lookup_export : List ℕ → CharTrie → List ℕ → List Float → List ℕ → FoundNumbers
lookup_export h t r l word = cond (eqb (length h) head_length) (found_as (lookup_returns (book_of (head_of h) t r l) word)) (found_numbers bad_areas 0 0)

-- ---- the cuts: the number, the token count, and the token area afterwards

pub record CutNumbers : Type 0 where
  pub number : ℕ
  pub count : ℕ
  pub area : List ℕ

abbrev pub cut_numbers : ℕ → ℕ → List ℕ → CutNumbers
cut_numbers n c a = record { number = n; count = c; area = a }

-- where head and mode are such, what the cut answers
abbrev pub cut_where : Bool → List ℕ → CutAnswer → CutNumbers
cut_where such area a = cond such (cut_numbers (number_of a.outcome) a.written.count a.written.area) (cut_numbers bad_areas 0 area)

unfoldable pub cut_export : List ℕ → CharTrie → List ℕ → List Float → ℕ → ℕ → List ℕ → List ℕ → CutNumbers
cut_export h t r l work room area sentence = cut_where (eqb (length h) head_length) area (cut_of (book_of (head_of h) t r l) work room area sentence)

unfoldable pub cut_for_search_export : List ℕ → CharTrie → List ℕ → List Float → ℕ → ℕ → List ℕ → List ℕ → CutNumbers
cut_for_search_export h t r l work room area sentence =
    cut_where (eqb (length h) head_length) area (cut_for_search_of (book_of (head_of h) t r l) work room area sentence)

unfoldable pub tokenize_export : List ℕ → CharTrie → List ℕ → List Float → ℕ → ℕ → ℕ → List ℕ → List ℕ → CutNumbers
tokenize_export h t r l mode work room area sentence =
    cut_where (eqb (length h) head_length && is_mode mode) area (tokenize_of (mode_of mode) (book_of (head_of h) t r l) work room area sentence)

unfoldable pub cut_all_export : List ℕ → CharTrie → List ℕ → List Float → ℕ → List ℕ → List ℕ → CutNumbers
cut_all_export h t r l work area sentence = cut_where (eqb (length h) head_length) area (cut_all_of (book_of (head_of h) t r l) work area sentence)

-- whether cutting begins; until then the work and edge areas are unchanged
abbrev pub cut_begins : List ℕ → CharTrie → List ℕ → List Float → ℕ → List ℕ → List ℕ → Bool
cut_begins h t r l work area sentence = eqb (length h) head_length && begins (tested_book (book_of (head_of h) t r l)) work area sentence
