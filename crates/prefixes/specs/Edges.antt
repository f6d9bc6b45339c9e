-- A block's edges as they stand in slices: what the walks leave there, in the terms of `cuts/specs/Edges.antt`.
-- Assumes nothing.
use Rattle.std.specs.Prelude.{ℕ, ◌-◌, ◌≤◌, ◌<◌, true, false, List, ◌≡◌, length, get_or, Result, Ok, Err}
use Rattle.book.specs.declared.Refusal.TheVariants.{EdgesFull}
use Rattle.book.specs.declared.Refusal.TheVariants as Refusal
use Rattle.book.specs.Returns.{Book}
use Rattle.book.specs.Prefixes.{Walked, words_from}
use Rattle.route.specs.Slices.{edges_from, rows_of, EdgesFit}
use Rattle.cuts.specs.Edges.{edges, stopped, walks_of, edges_within}
use Rattle.prefixes.specs.declared.PrefixError.{PrefixError}
use Rattle.prefixes.specs.declared.PrefixError.TheVariants.{Full, Damaged}

-- the places before one of them hold what they held
abbrev pub Kept : ℕ → List ℕ → List ℕ → Type 0
Kept taken old new = (i : ℕ) → i < taken → get_or new i 0 ≡ get_or old i 0

-- the edges of one position of a block of n characters stand in the places from one up to another: they are what the walk met, and each goes forward, to
-- the block's end at most, by a record in use
pub record Pushed (b : Book) (n at room from to : ℕ) (walk : Walked) (ends records : List ℕ) : Type 0 where
  pub rising : from ≤ to
  pub within : to ≤ room
  pub met : walk ≡ record { edges = edges_from ends records b.logarithms from (to - from); damaged = false }
  pub forward : (i : ℕ) → from ≤ i → i < to → at < get_or ends i 0
  pub inside : (i : ℕ) → from ≤ i → i < to → get_or ends i 0 ≤ n
  pub known : (i : ℕ) → from ≤ i → i < to → get_or records i 0 < b.head.records

-- what the walk from a position met, by what is answered, where so many places of the room are taken: "with 8 or 10 as it meets them"
abbrev pub WalkedAt : Book → ℕ → ℕ → ℕ → ℕ → Walked → List ℕ → List ℕ → Result ℕ PrefixError → Type 0
WalkedAt b n at room taken walk ends records (Ok count) = Pushed b n at room taken count walk ends records
WalkedAt b n at room taken walk ends records (Err Full) = room - taken < length walk.edges
WalkedAt b n at room taken walk ends records (Err Damaged) = (length walk.edges ≤ room - taken) × (walk.damaged ≡ true)

-- the same of a whole block: its edges are in the slices, as the route wants them, or the walk was stopped
abbrev pub WalkedBlock : Book → ℕ → ℕ → List ℕ → List ℕ → List ℕ → List ℕ → Result ℕ PrefixError → Type 0
WalkedBlock b n room chars starts ends records (Ok count) =
    (edges_within room (walks_of (words_from b) 0 chars) ≡ edges (rows_of starts ends records b.logarithms n))
    × EdgesFit starts ends records (length b.logarithms) n
WalkedBlock b n room chars starts ends records (Err Full) = edges_within room (walks_of (words_from b) 0 chars) ≡ stopped (Err EdgesFull)
WalkedBlock b n room chars starts ends records (Err Damaged) = edges_within room (walks_of (words_from b) 0 chars) ≡ stopped (Err Refusal.Damaged)
