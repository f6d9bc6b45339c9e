-- The held words that start at a position: document 01, "Edges and route", its first sentence, with the damage of "What each call returns".
-- Assumes nothing.
use Rattle.std.specs.Prelude.{ℕ, ◌+◌, Bool, true, false, List, [], ◌∷◌, Float, get_or, Ok, Err, Some, None}
use Rattle.std.specs.Float.{nan}
use Rattle.trie.specs.declared.ParentRef.{ParentRef}
use Rattle.trie.specs.declared.ParentRef.TheVariants.{Root}
use Rattle.trie.specs.Trie.{tested_step, word_at, WordNumber}
use Rattle.book.specs.Returns.{Book}

-- a held word met on a walk: the position after it, and its record's logarithm as it is stored
pub record Edge : Type 0 where
  pub end : ℕ
  pub logarithm : Float

-- what a walk met: words, ends rising, and then perhaps damage
pub record Walked : Type 0 where
  pub edges : List Edge
  pub damaged : Bool

abbrev pub ended : Walked
ended = record { edges = []; damaged = false }

abbrev pub broken : Walked
broken = record { edges = []; damaged = true }

-- "a bad word number before its edge"
abbrev pub met_before : Book → WordNumber → ℕ → Walked → Walked
met_before b (Ok None) end w = w
met_before b (Ok (Some n)) end w = record { edges = record { end = end; logarithm = get_or b.logarithms n nan } ∷ w.edges; damaged = w.damaged }
met_before b (Err d) end w = broken

-- from a place that stands at a position, through the characters that follow
unfoldable pub walk_on : Book → ParentRef → ℕ → List ℕ → Walked
walk_on b p at [] = ended
walk_on b p at (c ∷ cs) =
    elim (tested_step b.trie p c) [
      | Ok (Some q) ↦ met_before b (word_at b.head.records b.trie q) (at + 1) (walk_on b q (at + 1) cs)
      | Ok None ↦ ended
      | Err d ↦ broken
    ]

-- "each position's held words, ends rising": the words that start at a position, before the characters that follow it
unfoldable pub words_from : Book → ℕ → List ℕ → Walked
words_from b at cs = walk_on b Root at cs
