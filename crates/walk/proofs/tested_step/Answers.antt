-- `walk::tested_step` meets its contract: from each kind of place the step is the one that `tested_step` takes (`Places`). Assumes nothing.
use Rattle.walk.proofs.Places.{entry_inside, slot_inside, tested_at_root, tested_at_entry, tested_at_slot}
use borrow.Author.Rules.{rules}
use Rattle.walk.proofs.tested_step.Goals as goal

pub offset_bounds-tables-i : goal.offset_bounds-tables-i
offset_bounds-tables-i c = search (rules, entry_inside)

pub bounds-tables-i : goal.bounds-tables-i
bounds-tables-i c = search entry_inside

pub key_at-filter-requires : goal.key_at-filter-requires
key_at-filter-requires c = search slot_inside

pub link_at-requires : goal.link_at-requires
link_at-requires c = search slot_inside

pub returns-in-Root : goal.returns-in-Root
returns-in-Root c = search tested_at_root

pub returns-in-RootEntry : goal.returns-in-RootEntry
returns-in-RootEntry c = search tested_at_entry

pub returns-in-Slot : goal.returns-in-Slot
returns-in-Slot c = search tested_at_slot
