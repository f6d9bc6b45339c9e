-- `places::set_bits` meets its contract: each place is a case of `with_bits`, and its index lies inside the tables (`Places`). Assumes nothing.
use Rattle.trie.proofs.Steps.{key_bit_below, child_bit_below}
use Rattle.walk.proofs.Places.{entry_inside, slot_inside, slot_still}
use Rattle.places.proofs.Places.{bits_root, bits_entry, bits_slot}
use borrow.Author.Rules.{rules}
use Rattle.places.proofs.set_bits.Goals as goal

pub offset_bounds-roots-i : goal.offset_bounds-roots-i
offset_bounds-roots-i c = search (rules, entry_inside)

pub bounds-roots-i : goal.bounds-roots-i
bounds-roots-i c = search (rules, entry_inside)

pub with_child_bit-requires : goal.with_child_bit-requires
with_child_bit-requires c = search child_bit_below

pub offset_bounds-roots-i-in-RootEntry : goal.offset_bounds-roots-i-in-RootEntry
offset_bounds-roots-i-in-RootEntry c = search (rules, entry_inside)

pub bounds-roots-i-in-RootEntry : goal.bounds-roots-i-in-RootEntry
bounds-roots-i-in-RootEntry c = search (rules, entry_inside)

pub key_at-requires : goal.key_at-requires
key_at-requires c = search slot_inside

pub set_bit-key-requires : goal.set_bit-key-requires
set_bit-key-requires c = search key_bit_below

pub link_at-requires : goal.link_at-requires
link_at-requires c = search slot_inside

pub with_child_bit-link-requires : goal.with_child_bit-link-requires
with_child_bit-link-requires c = search child_bit_below

pub set_key-requires : goal.set_key-requires
set_key-requires c = search slot_inside

pub set_link-requires : goal.set_link-requires
set_link-requires c = search slot_still

pub returns-in-Root : goal.returns-in-Root
returns-in-Root c = search bits_root

pub returns-in-RootEntry : goal.returns-in-RootEntry
returns-in-RootEntry c = search bits_entry

pub returns-in-Slot : goal.returns-in-Slot
returns-in-Slot c = search bits_slot
