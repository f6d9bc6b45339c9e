-- `numbers::read_head` meets its contract: the four numbers, each from its place. Assumes nothing.
use mathlib.Core.Path.{refl}
use Rattle.numbers.proofs.read_head.Goals as goal

pub returns : goal.returns
returns c = refl
