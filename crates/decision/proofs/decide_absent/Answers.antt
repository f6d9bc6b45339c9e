-- `decision::decide_absent` meets its contract: each case of what the insertion's walk finds is the case of the decision. Assumes nothing.
use mathlib.Core.Path.{sym, ap, ◌∙◌}
use Prim.Native.Nat.{◌/◌, ◌≤◌}
use native.Mathlib.Omega.{arith}
use lib.ListN.{length}
use Rattle.std.specs.Prelude.{Ok, Err}
use Rattle.trie.proofs.SlotCounts.{size}
use Rattle.book.proofs.Sizes.{HeadWithin, head_within}
use Rattle.trie.specs.SlotCounts.{most_slots}
use Rattle.decision.proofs.Decisions.{decided_by_room, room_small}
use Rattle.decision.proofs.decide_absent.Goals as goal
use Rattle.decision.proofs.decide_absent.Goals.{After-room_for}
use Rattle.trie.specs.Trie.{damage}
use Rattle.walk.specs.declared.Room.TheVariants.{Whole, Partly}

-- ---- the places of the code: the book and the word are lent, and the word is walked, wholly or partly

-- the head's numbers are small, and the slots few
module _ (c : goal.After-room_for) where
  within : HeadWithin c.args.head (length c.args.records.now) (length c.args.slots.now / 2)
  within = head_within _ _ _ c.requires.slots_value

  few_slots : length c.args.slots.now / 2 ≤ most_slots
  few_slots = (size _ c.requires.slot_table.slot_count).1

pub decide_new-requires : goal.decide_new-requires
decide_new-requires c =
    omega (arith, within (goal.at.decide_new-requires c).After-room_for, few_slots (goal.at.decide_new-requires c).After-room_for, c.requires.slot_table.whole, c.requires.some)

pub decide_new-requires-in-Partly : goal.decide_new-requires-in-Partly
decide_new-requires-in-Partly c = omega (
  arith,
  within (goal.at.decide_new-requires-in-Partly c).After-room_for,
  few_slots (goal.at.decide_new-requires-in-Partly c).After-room_for,
  c.requires.slot_table.whole,
  c.requires.some,
  room_small _ _ _ _ _ (sym c.room_for.ensures ∙ (c.in-Ok.is ∙ ap Ok c.in-Partly.is)),
)

pub returns-in_default : goal.returns-in_default
returns-in_default c =
    λ l. decided_by_room _ _ _ (Err damage) c.requires.some.0 (sym c.in_default.is ∙ c.room_for.ensures)

pub returns-in-Err : goal.returns-in-Err
returns-in-Err c =
    λ l. decided_by_room _ _ _ (Ok (Whole (Err _))) c.requires.some.0
    (sym (c.in-Ok.is ∙ ap Ok (c.in-Whole.is ∙ ap Whole c.in-Err.is)) ∙ c.room_for.ensures)

pub returns-in-Ok-number : goal.returns-in-Ok-number
returns-in-Ok-number c =
    λ l. c.decide_new.ensures ∙ decided_by_room _ _ _ (Ok (Whole (Ok _))) c.requires.some.0
    (sym (c.in-Ok.is ∙ ap Ok (c.in-Whole.is ∙ ap Whole c.in-Ok-number.is)) ∙ c.room_for.ensures)

pub returns-in-Partly : goal.returns-in-Partly
returns-in-Partly c =
    λ l. c.decide_new-in-Partly.ensures ∙ decided_by_room _ _ _ (Ok (Partly _ _)) c.requires.some.0
    (sym (c.in-Ok.is ∙ ap Ok c.in-Partly.is) ∙ c.room_for.ensures)
