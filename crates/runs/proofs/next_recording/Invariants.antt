use Prim.Native.Nat.{◌+◌, ◌-◌, ◌*◌, ◌≤◌}
use mathlib.Core.Path.{◌≡◌}
use lib.ListN.{length}
use Rattle.runs.specs.Runs.{class_of}
use Rattle.runs.proofs.Recordings.{Recording}
use Rattle.runs.proofs.next_recording.Given as goal

abbrev pub invariant-loop-end : goal.invariant-loop-end
invariant-loop-end l = (length l.chars ≡ length l.initial.chars)
    × (length l.offsets ≡ length l.initial.offsets)
    × (l.at + l.n ≤ l.end)
    × (l.end ≤ l.at + 4 * l.n)
    × Recording (class_of l.class) l.s-2 l.at l.from l.matched l.n l.end l.reached l.chars l.offsets

abbrev pub decreases-loop-end : goal.decreases-loop-end
decreases-loop-end l = length l.s-2 - l.end
