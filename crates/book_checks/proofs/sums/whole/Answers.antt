-- `book_checks::sums::whole` is safe: the cast asks for a double above -1 and below 2^64, which the two tests before it say.
-- Assumes nothing.
use lib.Ieee.{of_bits, neg}
use Rattle.book_checks.proofs.sums.whole.Goals as goal

pub truncating_f64_to_u64-requires-clause-lower_bound :
    goal.truncating_f64_to_u64-requires-clause-lower_bound
unfolding of_bits neg
truncating_f64_to_u64-requires-clause-lower_bound c = rw c.if-x.true tt

pub truncating_f64_to_u64-requires-clause-upper_bound :
    goal.truncating_f64_to_u64-requires-clause-upper_bound
unfolding of_bits
truncating_f64_to_u64-requires-clause-upper_bound c = rw c.if-x-2.true tt
