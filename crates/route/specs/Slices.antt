-- A block's edges and its route in slices: what the code's slices and values say in the terms of `Route`.
-- Positions are counted from the block's start. The edges of all positions stand one after the other, in a slice of their ends and a slice of their
-- records; a slice of starts has, for each position, the place of its first edge, and so for the block's end the place behind the last edge.
-- Assumes nothing.
use Rattle.std.specs.Prelude.{ℕ, zero, suc, ◌+◌, ◌-◌, ◌≤◌, ◌<◌, List, [], ◌∷◌, map, ◌⊎◌, ◌≡◌, Float, length, get_or}
use Rattle.std.specs.Float.{nan}
use Rattle.book.specs.Prefixes.{Edge}
use Rattle.route.specs.declared.Choice.{Choice as CodeChoice}
use Rattle.route.specs.declared.Choice.TheVariants.{NoEdge, Best as BestEdge}
use Rattle.route.specs.declared.RouteEntry.{RouteEntry}
use Rattle.route.specs.Route.{Best, Choice, no_edge, best_edge, choose, route_of}

-- ---- entries and choices

-- what stands past a route's end, as in `score_at`
abbrev pub nowhere : Best
nowhere = record { score = nan; end = 0 }

-- an entry, and a choice, without the record number, by which nothing is chosen
abbrev pub as_best : RouteEntry → Best
as_best entry = record { score = entry.score; end = entry.end }

abbrev pub as_choice : CodeChoice → Choice
as_choice NoEdge = no_edge
as_choice (BestEdge score end n) = best_edge (record { score = score; end = end })

-- the record number of a step that is no word
abbrev pub no_record : ℕ
no_record = 4294967295

-- the record number of what is chosen
abbrev pub record_of : CodeChoice → ℕ
record_of NoEdge = no_record
record_of (BestEdge score end n) = n

-- a route with these scores, whose ends do not matter
abbrev pub with_scores : List Float → List Best
with_scores scores = map (λ (s : Float). record { score = s; end = 0 }) scores

-- ---- edges

-- so many edges, from a place of the slices on: an edge has the logarithm that its record stores
unfoldable pub edges_from : List ℕ → List ℕ → List Float → ℕ → ℕ → List Edge
edges_from ends records logarithms place zero = []
edges_from ends records logarithms place (suc count) =
    record { end = get_or ends place 0; logarithm = get_or logarithms (get_or records place 0) nan }
    ∷ edges_from ends records logarithms (place + 1) count

-- the edges of a position
abbrev pub edges_at : List ℕ → List ℕ → List ℕ → List Float → ℕ → List Edge
edges_at starts ends records logarithms i = edges_from ends records logarithms (get_or starts i 0) (get_or starts (i + 1) 0 - get_or starts i 0)

-- the edges of each of so many positions, from a position on
unfoldable pub rows_from : List ℕ → List ℕ → List ℕ → List Float → ℕ → ℕ → List (List Edge)
rows_from starts ends records logarithms i zero = []
rows_from starts ends records logarithms i (suc count) =
    edges_at starts ends records logarithms i ∷ rows_from starts ends records logarithms (i + 1) count

-- the edges of each position of a block of n characters
abbrev pub rows_of : List ℕ → List ℕ → List ℕ → List Float → ℕ → List (List Edge)
rows_of starts ends records logarithms n = rows_from starts ends records logarithms 0 n

-- a place of one of the position's edges
pub record EdgeOf (starts : List ℕ) (i place : ℕ) : Type 0 where
  pub first : get_or starts i 0 ≤ place
  pub last : place < get_or starts (i + 1) 0

-- what the route asks of the edges of a block of n characters: the starts rise and stand within the slices; each edge goes forward, to the block's
-- end at most; and its record is one of so many
pub record EdgesFit (starts ends records : List ℕ) (logarithms n : ℕ) : Type 0 where
  pub rising : (i : ℕ) → i < n → get_or starts i 0 ≤ get_or starts (i + 1) 0
  pub in_ends : (i : ℕ) → i ≤ n → get_or starts i 0 ≤ length ends
  pub in_records : (i : ℕ) → i ≤ n → get_or starts i 0 ≤ length records
  pub forward : (i place : ℕ) → i < n → EdgeOf starts i place → i < get_or ends place 0
  pub inside : (i place : ℕ) → i < n → EdgeOf starts i place → get_or ends place 0 ≤ n
  pub known : (i place : ℕ) → i < n → EdgeOf starts i place → get_or records place 0 < logarithms

-- what the choice asks of the edges from a place up to another: they stand within the slices, and lead to one of so many scores, by one of so many
-- records
pub record PlacesFit (ends records : List ℕ) (scores logarithms from to : ℕ) : Type 0 where
  pub rising : from ≤ to
  pub in_ends : to ≤ length ends
  pub in_records : to ≤ length records
  pub scored : (place : ℕ) → from ≤ place → place < to → get_or ends place 0 < scores
  pub known : (place : ℕ) → from ≤ place → place < to → get_or records place 0 < logarithms

-- ---- what is chosen

-- the choice over the edges from a place up to another, with a score for each position
abbrev pub chosen_from : List ℕ → List ℕ → List Float → List Float → Float → ℕ → ℕ → Choice
chosen_from ends records logarithms scores log_total from to =
    choose log_total (with_scores scores) 0 (edges_from ends records logarithms from (to - from)) no_edge

-- one of the edges from a place up to another has this end and this record
pub record OneOf (ends records : List ℕ) (from to end n : ℕ) : Type 0 where
  pub place : ℕ
  pub first : from ≤ place
  pub last : place < to
  pub ends_there : get_or ends place 0 ≡ end
  pub recorded : get_or records place 0 ≡ n

-- a choice from the edges from a place up to another: one of them, or nothing where there are none
abbrev pub ChosenOf : List ℕ → List ℕ → ℕ → ℕ → CodeChoice → Type 0
ChosenOf ends records from to NoEdge = from ≡ to
ChosenOf ends records from to (BestEdge score end n) = OneOf ends records from to end n

-- the end and the record number that are kept for a position: those of one of its edges, or the next position and no record where no word starts
abbrev pub KeptFor : List ℕ → List ℕ → List ℕ → ℕ → ℕ → ℕ → Type 0
KeptFor starts edge_ends edge_records i end n =
    ((get_or starts i 0 ≡ get_or starts (i + 1) 0) × (end ≡ i + 1) × (n ≡ no_record))
    ⊎ OneOf edge_ends edge_records (get_or starts i 0) (get_or starts (i + 1) 0) end n

-- "The route keeps score, end and record number for each position": the slices hold the route of a block of n characters, and its end
pub record KeepsRoute
    (starts edge_ends edge_records : List ℕ) (logarithms : List Float) (log_total : Float) (n : ℕ)
    (scores : List Float) (ends records : List ℕ) : Type 0 where
  pub score : (i : ℕ) → i ≤ n → get_or scores i nan ≡ (get_or (route_of log_total 0 (rows_of starts edge_ends edge_records logarithms n)) i nowhere).score
  pub end : (i : ℕ) → i ≤ n → get_or ends i 0 ≡ (get_or (route_of log_total 0 (rows_of starts edge_ends edge_records logarithms n)) i nowhere).end
  pub number : (i : ℕ) → i < n → KeptFor starts edge_ends edge_records i (get_or ends i 0) (get_or records i 0)
