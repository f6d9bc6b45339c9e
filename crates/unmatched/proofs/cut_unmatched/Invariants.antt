use Prim.Native.Nat.{◌-◌}
use lib.ListN.{take}
use Rattle.tokens.proofs.Turns.{Putting}
use Rattle.unmatched.proofs.Unmatched.{singly_from}
use Rattle.unmatched.proofs.cut_unmatched.Given as goal

abbrev pub invariant-loop-x : goal.invariant-loop-x
invariant-loop-x l = Putting (take l.n l.chars) l.offsets l.n l.base (singly_from (take l.n l.chars)) l.initial.tokens l.count-2 l.tokens l.count l.x

abbrev pub decreases-loop-x : goal.decreases-loop-x
decreases-loop-x l = l.n - l.x
