-- `records::no_record` meets its contract: its test is the definition's. Assumes nothing.
use mathlib.Core.Path.{refl}
use Rattle.records.proofs.no_record.Goals as goal

pub returns : goal.returns
returns c = refl
