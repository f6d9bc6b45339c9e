-- A text's lines enter one after the other, by what entering a word answers.
-- A refused word leaves the book as it was.
-- Assumes nothing.
use Rattle.std.specs.Prelude.{Ok, Err}
use mathlib.Core.Path.{◌≡◌, refl, ap, ◌∙◌}
use mathlib.Core.Bool.{cond}
use mathlib.Core.List.{List, ◌∷◌}
use Prim.Native.Nat.{ℕ, ◌+◌}
use Rattle.lines.specs.Lines.{Meaning, malformed, blank, bad_frequency, entry, meaning_of}
use Rattle.book.specs.declared.Entering.TheVariants.{Replace, Insert}
use Rattle.book.specs.Returns.{Book, is_done}
use Rattle.book.specs.Enter.{replaced, inserted, LoadAnswer, load_answer, enter, load_lines, Decision}
use Rattle.book.proofs.Outcomes.{not_done}
use Rattle.entry.specs.Texts.{EnterAnswer, enter_by, enter_meaning, enter_line}

-- the lines after one that was answered so
abbrev pub load_on : EnterAnswer → ℕ → List (List ℕ) → LoadAnswer
load_on e n ls = cond (is_done e.outcome) (load_lines e.book (n + 1) ls) (load_answer e.outcome (n + 1) e.book)

by_decision : (b : Book) (word : List ℕ) (frequency n : ℕ) (ls : List (List ℕ)) (d : Decision)
    → load_on (enter_by b word frequency d) n ls ≡ elim d [
      | Err r ↦ load_answer (Err r) (n + 1) b
      | Ok (Replace r total) ↦ load_lines (replaced b r frequency total) (n + 1) ls
      | Ok (Insert slots nodes total) ↦ load_lines
          (inserted b word frequency slots nodes total) (n + 1) ls
    ]
by_decision b word frequency n ls (Err r) = rw (not_done r)
by_decision b word frequency n ls (Ok (Replace r total)) = refl
by_decision b word frequency n ls (Ok (Insert slots nodes total)) = refl

by_meaning : (b : Book) (n : ℕ) (l : List ℕ) (ls : List (List ℕ)) (m : Meaning) → meaning_of l ≡ m → load_on (enter_meaning b m) n ls ≡ load_lines b n (l ∷ ls)
unfolding load_lines
by_meaning b n l ls malformed e = rw (e, load_lines)
by_meaning b n l ls blank e = rw (e, load_lines)
by_meaning b n l ls bad_frequency e = rw (e, load_lines)
by_meaning b n l ls (entry word frequency) e = rw (e, load_lines) (by_decision b word frequency n ls (enter b word frequency))

pub load_line_lem : (b : Book) (n : ℕ) (l : List ℕ) (ls : List (List ℕ)) (e : EnterAnswer) → e ≡ enter_line b l → load_on e n ls ≡ load_lines b n (l ∷ ls)
unfolding enter_line
load_line_lem b n l ls e q = ap (λ (x : EnterAnswer). load_on x n ls) q ∙ by_meaning b n l ls (meaning_of l) refl
