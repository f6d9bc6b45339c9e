-- `walk::root_step` meets its contract, by the laws of `Places`. Assumes nothing.
use Rattle.walk.proofs.Places.{root_empty, root_taken, root_slot}
use Rattle.walk.proofs.root_step.Goals as goal

pub returns-then-child_of-eq0 : goal.returns-then-child_of-eq0
returns-then-child_of-eq0 c = search root_empty

pub returns-then-i-tables : goal.returns-then-i-tables
returns-then-i-tables c = search root_taken

pub returns : goal.returns
returns c = search root_slot
