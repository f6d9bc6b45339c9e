-- `walk::node_at` meets its contract: each place is a case of `node_at`, and its index lies inside the table (`Places`). Assumes nothing.
use Rattle.walk.proofs.Places.{entry_inside, slot_inside, node_root, node_entry, node_slot}
use borrow.Author.Rules.{rules}
use Rattle.walk.proofs.node_at.Goals as goal

pub offset_bounds-roots-i : goal.offset_bounds-roots-i
offset_bounds-roots-i c = search (rules, entry_inside)

pub bounds-roots-i : goal.bounds-roots-i
bounds-roots-i c = search entry_inside

pub link_at-requires : goal.link_at-requires
link_at-requires c = search slot_inside

pub returns-in-Root : goal.returns-in-Root
returns-in-Root c = search node_root

pub returns-in-RootEntry : goal.returns-in-RootEntry
returns-in-RootEntry c = search node_entry

pub returns-in-Slot : goal.returns-in-Slot
returns-in-Slot c = search node_slot
