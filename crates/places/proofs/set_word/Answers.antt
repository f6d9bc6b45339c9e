-- `places::set_word` meets its contract: each place is a case of `with_word`, and its index lies inside the table (`Places`). Assumes nothing.
use Rattle.walk.proofs.Places.{entry_inside, slot_inside}
use Rattle.places.proofs.Places.{word_root, word_entry, word_slot}
use borrow.Author.Rules.{rules}
use Rattle.places.proofs.set_word.Goals as goal

pub offset_bounds-roots-i : goal.offset_bounds-roots-i
offset_bounds-roots-i c = search (rules, entry_inside)

pub bounds-roots-i : goal.bounds-roots-i
bounds-roots-i c = search (rules, entry_inside)

pub offset_bounds-roots-i-in-RootEntry : goal.offset_bounds-roots-i-in-RootEntry
offset_bounds-roots-i-in-RootEntry c = search (rules, entry_inside)

pub bounds-roots-i-in-RootEntry : goal.bounds-roots-i-in-RootEntry
bounds-roots-i-in-RootEntry c = search (rules, entry_inside)

pub link_at-requires : goal.link_at-requires
link_at-requires c = search slot_inside

pub set_link-requires : goal.set_link-requires
set_link-requires c = search slot_inside

pub returns-in-Root : goal.returns-in-Root
returns-in-Root c = search word_root

pub returns-in-RootEntry : goal.returns-in-RootEntry
returns-in-RootEntry c = search word_entry

pub returns-in-Slot : goal.returns-in-Slot
returns-in-Slot c = search word_slot
