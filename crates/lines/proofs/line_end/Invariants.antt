-- `lines::line_end`: the line that the position is in ends where it ended at first.
use mathlib.Core.Path.{◌≡◌}
use Rattle.lines.specs.Lines.{line_end}
use Rattle.lines.proofs.line_end.Given as goal

abbrev pub invariant-loop-end : goal.invariant-loop-end
invariant-loop-end l = line_end l.s l.end ≡ line_end l.s l.at
