-- `checks::sweep::print_ranges` is safe and ends. Each turn goes on to the end of a run, which `run_end` puts above its start and at most at the limit.
-- Assumes nothing.
use Rattle.std.proofs.Common.{◌-◌}
use Rattle.checks.proofs.sweep.print_ranges.Given as goal

abbrev pub decreases-loop-x : goal.decreases-loop-x
decreases-loop-x g l = l.limit - l.x
