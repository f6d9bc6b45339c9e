-- `cutlines::input::answer_lines` is safe and ends: the answers lie within their area, and the measure is what is left of the input. Assumes nothing.
use Rattle.std.proofs.Common.{◌≤◌, length}
use Rattle.cutlines.proofs.input.answer_lines.Given as goal

abbrev pub invariant-loop-after : goal.invariant-loop-after
invariant-loop-after g l = l.end ≤ 65536

abbrev pub decreases-loop-after : goal.decreases-loop-after
decreases-loop-after g l = length l.rest
