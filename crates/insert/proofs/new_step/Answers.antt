-- `insert::new_step` meets its contract: the root's entry, or the empty slot that is found before the place gains its bits, are the cases of `new_step`
-- (`NewSteps`). The slot is still inside the table after the bits are set, which keeps its length. Assumes nothing.
use Rattle.walk.proofs.Places.{has_entry, node_below}
use Rattle.insert.proofs.NewSteps.{empty_below, new_entry_made, no_empty_slot, new_slot_made}
use borrow.Author.Rules.{rules}
use Rattle.insert.proofs.new_step.Goals as goal

pub new_root_entry-requires : goal.new_root_entry-requires
new_root_entry-requires c = has_entry _ _ _ _ c.from_root.ensures c.if-from_root.true

pub returns-then-from_root : goal.returns-then-from_root
returns-then-from_root c =
    new_entry_made _ _ _ _ _ (c.from_root.ensures _) _ c.if-from_root.true (c.new_root_entry.ensures _)

pub key-key-requires : goal.key-key-requires
key-key-requires c = (node_below _ _ _ c.node_at.ensures, search rules)

pub returns-in_err-i : goal.returns-in_err-i
returns-in_err-i c =
    no_empty_slot _ _ _ _ _ (c.from_root.ensures _) c.if-from_root.false _ _ c.node_at.ensures c.key-key.ensures _
    c.first_empty.ensures _ c.in_err-i.was _ c.from_residual.ensures.0

pub new_slot-requires : goal.new_slot-requires
new_slot-requires c =
    let table = c.requires.slot_table in
    empty_below _ _ table _ _ _ c.first_empty.ensures c.in_ok-i.was _ c.set_bits.auto.slots

pub returns : goal.returns
returns c =
    new_slot_made _ _ _ _ _ (c.from_root.ensures _) c.if-from_root.false _ _ c.node_at.ensures c.key-key.ensures _
    c.first_empty.ensures _ _ _ c.in_ok-i.was c.set_bits.ensures (c.new_slot.ensures _)
