-- `EndsForward`: the step that is kept for a position is one of its edges, which go forward, or the step to the next position.
-- Assumes nothing.
use Prim.Native.Nat.{ℕ, ◌+◌, ◌≤◌, ◌<◌}
use mathlib.Core.List.{List}
use mathlib.Core.Logic.{⊎_elim}
use native.Mathlib.Omega.{arith}
use lib.ListN.{get_or}
use Rattle.route.specs.Slices.{EdgeOf, EdgesFit, OneOf, KeptFor}
use Rattle.route.specs.Claims.{EndsForward}

kept_forward : (starts edge_ends edge_records : List ℕ) (records n i end number : ℕ)
    → EdgesFit starts edge_ends edge_records records n
    → i < n
    → KeptFor starts edge_ends edge_records i end number
    → (i < end) × (end ≤ n)
kept_forward starts edge_ends edge_records records n i end number fit within = ⊎_elim (λ lone. (omega arith, omega arith)) by_edge
  where
    by_edge : OneOf edge_ends edge_records (get_or starts i 0) (get_or starts (i + 1) 0) end number → (i < end) × (end ≤ n)
    by_edge one =
        let edge : EdgeOf starts i one.place = record { first = one.first; last = one.last } in
        rw (← one.ends_there) (fit.forward i one.place within edge, fit.inside i one.place within edge)

pub ends_forward : EndsForward
ends_forward starts edge_ends edge_records logarithms log_total n scores ends records fit keeps i within =
    kept_forward starts edge_ends edge_records _ n i (get_or ends i 0) (get_or records i 0) fit within (keeps.number i within)
