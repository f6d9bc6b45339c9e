-- What is claimed of insertion, for every content of the tables: it keeps their lengths, and the code's two parts come to it. Proofs:
-- `proofs/Lengths.antt`, `proofs/Marks.antt`, `proofs/NewSteps.antt`.
-- Assumes nothing.
use Rattle.std.specs.Prelude.{ℕ, ◌+◌, List, ◌∷◌, ◌≡◌, ℤ, length}
use Rattle.trie.specs.declared.ParentRef.{ParentRef}
use Rattle.trie.specs.Trie.{CharTrie, extend, insert}
use Rattle.insert.specs.Insert.{mark, extend_marked, new_step, extend_stepped}

-- every table has the same length in both
pub record SameLengths (t u : CharTrie) : Type 0 where
  pub root_children : length t.root_children ≡ length u.root_children
  pub root_words : length t.root_words ≡ length u.root_words
  pub keys : length t.keys ≡ length u.keys
  pub children : length t.children ≡ length u.children
  pub words : length t.words ≡ length u.words

-- an insertion keeps the lengths of all tables
abbrev pub InsertKeepsLengths : Type 0
InsertKeepsLengths = (t : CharTrie) (p : ParentRef) (cs : List ℕ) (node : ℕ) (number : ℤ) → SameLengths (insert t p cs node number) t

-- an insertion sets the bits of the steps that are there, and then makes those that are not
abbrev pub InsertMarksThenExtends : Type 0
InsertMarksThenExtends = (t : CharTrie) (p : ParentRef) (cs : List ℕ) (node : ℕ) (number : ℤ)
    → insert t p cs node number ≡ extend_marked (mark t p cs) node number

-- an extension makes one new step, and then the others
abbrev pub ExtendStepsThenExtends : Type 0
ExtendStepsThenExtends = (t : CharTrie) (p : ParentRef) (c : ℕ) (cs : List ℕ) (node : ℕ) (number : ℤ)
    → extend t p (c ∷ cs) node number ≡ extend_stepped (new_step t p c node) cs (node + 1) number
