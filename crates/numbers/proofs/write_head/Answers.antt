-- `numbers::write_head` meets its contract: four writes into four places. Assumes nothing.
use Rattle.numbers.proofs.Numbers.{four_written}
use Rattle.numbers.proofs.write_head.Goals as goal

pub returns : goal.returns
returns c = four_written c.args.head.now _ _ _ _ c.requires
