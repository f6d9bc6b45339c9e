use mathlib.Core.Path.{◌≡◌}
use Prim.Native.Nat.{◌≤◌, ◌-◌}
use lib.ListN.{length}
use Rattle.utf8.specs.Text.{chars_of, chars_from, count_of}
use Rattle.utf8.proofs.Positions.{count_on}
use Rattle.utf8.proofs.char_count.Given as goal

abbrev pub invariant-loop-next : goal.invariant-loop-next
invariant-loop-next l = (l.n ≤ l.at) × (l.at ≤ length l.s-2) × (count_on l.n (chars_from l.s-2 l.at) ≡ count_of (chars_of l.s-2))

abbrev pub decreases-loop-next : goal.decreases-loop-next
decreases-loop-next l = length l.s-2 - l.at
