-- What the calls on a book return, in document 01's numbers: "When an answer is an enum, the promises use a definition that gives this paper's number
-- and values for each case of the enum." The number of each outcome is `number_of`. Beside its number a call returns a value, "absent", or nothing.
-- Assumes nothing.
use Rattle.std.specs.Prelude.{ℕ, List, Float, Some, None, Result, Ok, Err}
use Rattle.trie.specs.Trie.{CharTrie}
use Rattle.book.specs.declared.Head.{Head}
use Rattle.book.specs.declared.LoadError.{LoadError}
use Rattle.book.specs.declared.Refusal.{Refusal}
use Rattle.book.specs.Returns.{Book, number_of, Found, prepare_of, lookup_of}
use Rattle.book.specs.Enter.{load_of, add_of}

pub data Beside : Type 0 where
  value : ℕ → Beside
  absent : Beside
  nothing : Beside

pub record Returned : Type 0 where
  pub number : ℕ
  pub beside : Beside

abbrev pub returned : ℕ → Beside → Returned
returned n beside = record { number = n; beside = beside }

-- ---- the answers: 0 is "done", and a refusal has its own number

-- "Prepare: 1"; the head that comes with `Ok` is the book's, not a value returned
abbrev pub prepared_returns : Result Head Refusal → Returned
prepared_returns (Ok head) = returned 0 nothing
prepared_returns (Err r) = returned (number_of (Err r)) nothing

-- "Lookup returns the frequency, or "absent"; refused, neither."
abbrev pub found_returns : Found → Returned
found_returns (Ok (Some f)) = returned 0 (value f)
found_returns (Ok None) = returned 0 absent
found_returns (Err r) = returned (number_of (Err r)) nothing

-- "Load returns its line too: the refused one (from 1), 0 with 1 or 2, else the lines read."
abbrev pub loaded_returns : Result ℕ LoadError → Returned
loaded_returns (Ok lines) = returned 0 (value lines)
loaded_returns (Err e) = returned (number_of (Err e.refusal)) (value e.line)

-- "Add returns the frequency; refused, 0."
abbrev pub added_returns : Result ℕ Refusal → Returned
added_returns (Ok frequency) = returned 0 (value frequency)
added_returns (Err r) = returned (number_of (Err r)) (value 0)

-- ---- the calls

abbrev pub prepare_returns : CharTrie → List ℕ → List Float → Returned
prepare_returns t r l = prepared_returns (prepare_of t r l).prepared

abbrev pub lookup_returns : Book → List ℕ → Returned
lookup_returns b word = found_returns (lookup_of b word)

abbrev pub load_returns : Book → List ℕ → Returned
load_returns b text = returned (number_of (load_of b text).outcome) (value (load_of b text).line)

abbrev pub add_returns : Book → List ℕ → ℕ → Returned
add_returns b word frequency = returned (number_of (add_of b word frequency).outcome) (value (add_of b word frequency).frequency)
