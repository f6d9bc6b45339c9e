-- `places::new_root_entry` meets its contract: the store is that of `new_root_entry` (`Places`). Assumes nothing.
use Rattle.places.proofs.Places.{entry_new}
use Rattle.places.proofs.new_root_entry.Goals as goal

pub returns : goal.returns
returns c = search entry_new
