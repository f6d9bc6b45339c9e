-- A block's edges: document 01, "Edges and route: `StaticSparseDAG`, `calc`", up to the route, which `route/specs/Route.antt` has.
-- Assumes nothing.
use Rattle.std.specs.Prelude.{ℕ, ◌+◌, ◌-◌, true, false, List, [], ◌∷◌, ltb, length, Err}
use Rattle.book.specs.declared.Refusal.TheVariants.{Damaged, EdgesFull}
use Rattle.book.specs.Returns.{Book, Outcome}
use Rattle.book.specs.Prefixes.{Edge, Walked, words_from}

-- what a cut sees of a book: the words that start at a position, before the characters that follow it, and the total
pub record Vocabulary : Type 0 where
  pub words : ℕ → List ℕ → Walked
  pub total : ℕ

abbrev pub vocabulary_of : Book → Vocabulary
vocabulary_of b = record { words = words_from b; total = b.head.total }

-- what the walk from each position of a block meets
unfoldable pub walks_of : (ℕ → List ℕ → Walked) → ℕ → List ℕ → List Walked
walks_of words at [] = []
walks_of words at (c ∷ cs) = words at (c ∷ cs) ∷ walks_of words (at + 1) cs

-- the edges of each position, or what stopped the walk
pub data Edges : Type 0 where
  edges : List (List Edge) → Edges
  stopped : Outcome → Edges

abbrev pub before : List Edge → Edges → Edges
before es (edges rows) = edges (es ∷ rows)
before es (stopped o) = stopped o

-- "the walk, with 8 or 10 as it meets them": the edge area has room for so many more
unfoldable pub edges_within : ℕ → List Walked → Edges
edges_within room [] = edges []
edges_within room (w ∷ ws) =
    elim (ltb room (length w.edges)) [
      | true ↦ stopped (Err EdgesFull)
      | false ↦ elim w.damaged [ true ↦ stopped (Err Damaged) | false ↦ before w.edges (edges_within (room - length w.edges) ws) ]
    ]
