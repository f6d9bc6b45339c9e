-- `empties::has_empty` meets its contract: nothing is left to find in the two parts exactly where all slots have as many empty ones (`Empties`).
-- Assumes nothing.
use native.Mathlib.Omega.{arith}
use lib.ListN.{length-take}
use Rattle.empties.proofs.Empties.{both_parts, earlier_whole}
use Rattle.empties.proofs.has_empty.Goals as goal

pub slice_bounds-still_wanted-end-2 : goal.slice_bounds-still_wanted-end-2
slice_bounds-still_wanted-end-2 c = simp length-take (omega arith)

pub still_wanted-requires : goal.still_wanted-requires
still_wanted-requires c = search earlier_whole

pub returns : goal.returns
returns c = search both_parts
