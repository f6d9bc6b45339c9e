-- `checks::logarithms::print_whole` is safe and ends. The cast asks that the double lies above -1 and below 2^64, which the two tests before it say.
-- Assumes nothing.
use lib.Ieee.{of_bits, neg}
use Rattle.checks.proofs.logarithms.print_whole.Goals as goal

pub truncating_f64_to_u64-n-requires-clause-lower_bound :
    goal.truncating_f64_to_u64-n-requires-clause-lower_bound
unfolding of_bits neg
truncating_f64_to_u64-n-requires-clause-lower_bound g c = rw c.if-x.true tt

pub truncating_f64_to_u64-n-requires-clause-upper_bound :
    goal.truncating_f64_to_u64-n-requires-clause-upper_bound
unfolding of_bits
truncating_f64_to_u64-n-requires-clause-upper_bound g c = rw c.if-x-2.true tt
