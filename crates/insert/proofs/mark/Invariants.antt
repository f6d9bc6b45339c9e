use Prim.Native.Nat.{◌-◌}
use lib.ListN.{length}
use Rattle.insert.proofs.Marks.{Marking}
use Rattle.insert.proofs.mark.Given as goal

abbrev pub invariant-loop-at : goal.invariant-loop-at
invariant-loop-at l = Marking l.initial.roots l.initial.slots l.s l.roots l.slots l.place l.at

abbrev pub decreases-loop-at : goal.decreases-loop-at
decreases-loop-at l = length l.s - l.at
