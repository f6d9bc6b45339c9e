-- `checks::encodings::print_leads` is safe and ends. The lead byte is at most 0x100, and each turn goes on to the end of a run, which `run_end` puts above it.
-- Assumes nothing.
use Rattle.std.proofs.Common.{◌-◌}
use Rattle.checks.proofs.encodings.print_leads.Given as goal

abbrev pub decreases-loop-lead : goal.decreases-loop-lead
decreases-loop-lead g l = 0x100 - l.lead
