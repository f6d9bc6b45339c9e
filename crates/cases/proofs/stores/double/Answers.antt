-- `cases::stores::double` is safe: `from_bits` asks that the bits are no NaN's, and the test before it says so, since a NaN's, without
-- the sign, are above an infinity's.
-- Assumes nothing.
use Rattle.std.proofs.Common.{arith}
use Rattle.std.proofs.lemmas.Float.{not_nan_f64_bits}
use Rattle.cases.proofs.stores.double.Goals as goal

pub float_from_bits-result : goal.float_from_bits-result
float_from_bits-result c = not_nan_f64_bits _ (omega arith)
