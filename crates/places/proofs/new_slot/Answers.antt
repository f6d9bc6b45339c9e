-- `places::new_slot` meets its contract: the two stores are those of `new_slot` (`Places`). Assumes nothing.
use Rattle.places.proofs.Places.{slot_new}
use Rattle.places.proofs.new_slot.Goals as goal

pub returns : goal.returns
returns c = search slot_new
