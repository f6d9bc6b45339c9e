-- `walk::word_at` meets its contract: at each kind of place the word number is the one that `word_at` reads (`Places`). Assumes nothing.
use Rattle.walk.proofs.Places.{entry_inside, slot_inside, word_at_root, word_at_entry, word_at_slot}
use borrow.Author.Rules.{rules}
use Rattle.walk.proofs.word_at.Goals as goal

pub offset_bounds-roots-i : goal.offset_bounds-roots-i
offset_bounds-roots-i c = search (rules, entry_inside)

pub bounds-roots-i : goal.bounds-roots-i
bounds-roots-i c = search entry_inside

pub link_at-requires : goal.link_at-requires
link_at-requires c = search slot_inside

pub returns-in-Root : goal.returns-in-Root
returns-in-Root c = search word_at_root

pub returns-in-RootEntry : goal.returns-in-RootEntry
returns-in-RootEntry c = search word_at_entry

pub returns-in-Slot : goal.returns-in-Slot
returns-in-Slot c = search word_at_slot
