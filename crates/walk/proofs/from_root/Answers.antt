-- `walk::from_root` meets its contract: each place is a case of `from_root` (`Places`). Assumes nothing.
use Rattle.walk.proofs.Places.{root_tested, entry_not_root, slot_not_root}
use Rattle.walk.proofs.from_root.Goals as goal

pub returns-in-Root : goal.returns-in-Root
returns-in-Root c = search root_tested

pub returns-in-RootEntry : goal.returns-in-RootEntry
returns-in-RootEntry c = search entry_not_root

pub returns-in-Slot : goal.returns-in-Slot
returns-in-Slot c = search slot_not_root
