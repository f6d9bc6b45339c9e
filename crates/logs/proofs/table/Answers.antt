-- `logs::table` meets its contract: the one test over the table, which antt computes. Assumes nothing.
use mathlib.Core.Path.{refl}
use lib.Count.{count_leading_zeros}
use Rattle.score.specs.Logarithm.{highest_one, significand, next_bit, next_significand, bits_of, log_of}
use Rattle.logs.specs.Table.{logs_from, is_log_table}
use Rattle.logs.proofs.table.Goals as goal

pub returns : goal.returns
unfolding is_log_table logs_from log_of highest_one significand next_bit next_significand bits_of count_leading_zeros
returns c = refl
