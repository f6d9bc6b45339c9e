use mathlib.Core.Path.{◌≡◌}
use mathlib.Core.Option.{IsSome}
use Prim.Native.Nat.{◌-◌}
use lib.ListN.{length}
use Rattle.utf8.specs.Text.{chars_from}
use Rattle.lines.specs.Lines.{past, space_is}
use Rattle.lines.proofs.skip.Given as goal

abbrev pub invariant-loop-end : goal.invariant-loop-end
invariant-loop-end l = (past (space_is l.space) l.end (chars_from l.s l.end) ≡ past (space_is l.space) l.at (chars_from l.s l.at)) × IsSome (chars_from l.s l.end)

abbrev pub decreases-loop-end : goal.decreases-loop-end
decreases-loop-end l = length l.s - l.end
