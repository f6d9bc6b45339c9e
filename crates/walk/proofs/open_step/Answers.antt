-- `walk::open_step` meets its contract: the root's step where it uses the root table, else the probe of the place's node (`Places`). Assumes nothing.
use Rattle.walk.proofs.Places.{node_below, open_at_root, open_at_node}
use borrow.Author.Rules.{rules}
use Rattle.walk.proofs.open_step.Goals as goal

pub returns-then-from_root : goal.returns-then-from_root
returns-then-from_root c = search (open_at_root, c.from_root.ensures)

pub slot_step-requires : goal.slot_step-requires
slot_step-requires c = search (rules, node_below)

pub returns : goal.returns
returns c = search (open_at_node, c.from_root.ensures)
