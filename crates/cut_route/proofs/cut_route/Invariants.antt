use Prim.Native.Nat.{ℕ, ◌-◌}
use mathlib.Core.List.{List}
use lib.Ieee.{Float}
use lib.ListN.{take}
use Rattle.route.specs.Slices.{rows_of}
use Rattle.tokens.proofs.Turns.{Putting}
use Rattle.cut_route.specs.Routes.{tokens_by}
use Rattle.cut_route.proofs.Routes.{route_from}
use Rattle.cut_route.proofs.cut_route.Given as goal

-- whatever records and logarithms the edges have
abbrev pub invariant-loop-x : goal.invariant-loop-x
invariant-loop-x l = (records : List ℕ) (logarithms : List Float)
    → Putting (take l.n l.chars) l.offsets l.n l.base (λ z.
    tokens_by l.mode (take l.n l.chars) (rows_of l.starts l.edge_ends records logarithms l.n) (route_from (take l.n l.chars) l.ends l.n z)) l.initial.tokens l.count-2 l.tokens l.count l.x

abbrev pub decreases-loop-x : goal.decreases-loop-x
decreases-loop-x l = l.n - l.x
