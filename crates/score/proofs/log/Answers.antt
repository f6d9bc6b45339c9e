-- `score::log` meets its contract: at 0 it returns minus infinity, and else what `log_scaled` gives, as a double. The cast is exact, since a
-- logarithm is below 2^29.
-- Assumes nothing.
use Rattle.score.proofs.Logarithm.{float_of_zero, float_of_positive, log_in_float}
use Rattle.score.proofs.log.Goals as goal

pub returns-then-n-eq0 : goal.returns-then-n-eq0
returns-then-n-eq0 c = search float_of_zero

pub int_to_float-result : goal.int_to_float-result
int_to_float-result c = search log_in_float

pub returns : goal.returns
returns c = search float_of_positive
