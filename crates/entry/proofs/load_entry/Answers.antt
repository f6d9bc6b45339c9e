-- `entry::load_entry` meets its contract: each `return` is the case that the decision says, with the areas as the writes leave them. What the sizes, the test
-- of the head and the decision promise is said once, of the places of the code after them. Assumes nothing.
use Rattle.std.specs.Prelude.{Ok, Err}
use Rattle.std.proofs.Common.{rules}
use native.Mathlib.Omega.{arith}
use mathlib.Core.Path.{◌≡◌, sym, ap, ◌∙◌}
use mathlib.Core.Bool.{false}
use Prim.Native.Nat.{◌/◌, ◌<◌, ◌≤◌}
use lib.ListN.{length}
use Rattle.trie.specs.Trie.{trie_of}
use Rattle.insert.specs.Insert.{characters}
use Rattle.book.specs.Areas.{book_of}
use Rattle.book.specs.Returns.{most_records, head_damaged, damaged_head}
use Rattle.book.proofs.Sizes.{HeadWithin, head_within}
use Rattle.book.proofs.Areas.{slots_whole, slots_most, slot_table, records_most, logarithms_same, damaged_lent}
use Rattle.entry.proofs.Bounds.{Inserts, record_held, room_left}
use Rattle.entry.proofs.Entering.{head_damaged_lem, refused, replaced_by, inserted_by}
use Rattle.entry.proofs.load_entry.Goals as goal
use Rattle.entry.proofs.load_entry.Goals.{After-from_residual, After-is_head_damaged, Else-is_head_damaged, In-Insert, In-Replace, Start}

-- ---- the places of the code: the book is lent, its head passes the test, the decision is taken, a new word has its record, it is inserted, its record is set

-- there are as many logarithms as records, and not many
few_records : (c : goal.Start) → (length c.args.logarithms.now ≡ length c.args.records.now) × (length c.args.records.now ≤ most_records)
few_records c = (logarithms_same _ _ _ _ c.requires.logarithms_value, records_most _ _ _ _ c.requires.logarithms_value)

-- the test of the head, as the code makes it, is the definition's
head_tested : (c : goal.After-is_head_damaged) → let s = c.args in
    c.is_head_damaged.result ≡ damaged_head (book_of s.head.now (trie_of s.roots.now s.slots.now) s.records.now s.logarithms.now)
head_tested c =
    let whole = slots_whole _ _ _ _ c.requires.logarithms_value in
    c.is_head_damaged.ensures
    ∙ damaged_lent c.args.head.now c.args.roots.now c.args.slots.now c.args.records.now c.args.logarithms.now whole

-- the head is not damaged, so its numbers are small
module _ (c : goal.Else-is_head_damaged) where
  undamaged : head_damaged c.args.head.now (length c.args.records.now) (length c.args.slots.now / 2) ≡ false
  undamaged = sym c.is_head_damaged.ensures ∙ c.if-is_head_damaged.false

  within : HeadWithin c.args.head.now (length c.args.records.now) (length c.args.slots.now / 2)
  within = head_within _ _ _ undamaged

-- a word is replaced in a record that is used
module _ (c : goal.In-Replace) where
  held : c.in-Replace.n < c.args.head.now.records
  held = record_held _ _ _ _ _ c.decide.ensures (c.in_ok-n.was ∙ ap Ok c.in-Replace.is)

-- a word is inserted where there is room
module _ (c : goal.In-Insert) where
  room : Inserts c.args.head.now (length c.args.records.now) (length c.args.slots.now / 2)
      c.in-Insert.new_slots c.in-Insert.nodes
  room =
      let whole = slots_whole _ _ _ _ c.requires.logarithms_value in
      room_left c.args.head.now c.args.roots.now c.args.slots.now c.args.records.now _ _ c.decide.ensures whole
      (c.in_ok-n.was ∙ ap Ok c.in-Insert.is)

pub is_head_damaged-requires : goal.is_head_damaged-requires
is_head_damaged-requires c = slots_most _ _ _ _ c.requires.logarithms_value

pub returns-then-is_head_damaged : goal.returns-then-is_head_damaged
returns-then-is_head_damaged c = head_damaged_lem _ _ _ _ _ _ c.requires.shift_value.1 (head_tested (goal.at.returns-then-is_head_damaged c).After-is_head_damaged) c.if-is_head_damaged.true

pub decide-requires : goal.decide-requires
decide-requires c = let pre = c.requires in
    record { slot_table = slot_table _ _ _ _ pre.logarithms_value _ pre.shift_value.0; slots_value = undamaged (goal.at.decide-requires c).Else-is_head_damaged; some = (pre.shift_value.1, pre.shift_value.2, omega arith, (few_records (goal.at.decide-requires c).Start).1) }

pub offset_bounds-records-n : goal.offset_bounds-records-n
offset_bounds-records-n c =
    omega (arith, held (goal.at.offset_bounds-records-n c).In-Replace, within (goal.at.offset_bounds-records-n c).Else-is_head_damaged, few_records (goal.at.offset_bounds-records-n c).Start)

pub bounds-records-n : goal.bounds-records-n
bounds-records-n c =
    omega (arith, held (goal.at.bounds-records-n c).In-Replace, within (goal.at.bounds-records-n c).Else-is_head_damaged)

pub set_record-requires : goal.set_record-requires
set_record-requires c =
    omega (arith, held (goal.at.set_record-requires c).In-Replace, within (goal.at.set_record-requires c).Else-is_head_damaged, few_records (goal.at.set_record-requires c).Start)

pub overflow_cast-before : goal.overflow_cast-before
overflow_cast-before c = omega (arith, within (goal.at.overflow_cast-before c).Else-is_head_damaged)

pub overflow_cast-n : goal.overflow_cast-n
overflow_cast-n c =
    omega (arith, c.next_record-n.ensures, within (goal.at.overflow_cast-n c).Else-is_head_damaged, few_records (goal.at.overflow_cast-n c).Start)

pub insert-requires : goal.insert-requires
insert-requires c = let pre = c.requires in
    let small = within (goal.at.insert-requires c).Else-is_head_damaged in record { slot_table = slot_table _ _ _ _ pre.logarithms_value _ pre.shift_value.0; some = pre.shift_value.1; s_bound = (omega (arith, small, pre.shift_value), omega (arith, c.next_record-n.ensures, small, few_records (goal.at.insert-requires c).Start)) }

pub set_record-requires-in-Insert : goal.set_record-requires-in-Insert
set_record-requires-in-Insert c =
    omega (arith, c.next_record-n.ensures, room (goal.at.set_record-requires-in-Insert c).In-Insert, few_records (goal.at.set_record-requires-in-Insert c).Start)

pub overflow_add-head : goal.overflow_add-head
overflow_add-head c =
    omega (arith, room (goal.at.overflow_add-head c).In-Insert, few_records (goal.at.overflow_add-head c).Start)

pub overflow_add-head-in-Insert : goal.overflow_add-head-in-Insert
overflow_add-head-in-Insert c =
    omega (arith, room (goal.at.overflow_add-head-in-Insert c).In-Insert, slots_most _ _ _ _ c.requires.logarithms_value)

pub overflow_add-head-in-Insert-2 : goal.overflow_add-head-in-Insert-2
overflow_add-head-in-Insert-2 c = omega (arith, room (goal.at.overflow_add-head-in-Insert-2 c).In-Insert)

refused_as : (c : goal.After-from_residual) → c.from_residual.result ≡ Err c.in_err-n.field-0.0
refused_as c = search rules

pub returns-in_err-n : goal.returns-in_err-n
returns-in_err-n c =
    rw (refused_as c)
    (refused _ _ _ _ _ _ c.requires.shift_value.1 (head_tested (goal.at.returns-in_err-n c).After-is_head_damaged) c.if-is_head_damaged.false c.decide.ensures c.in_err-n.was)

pub returns-in-Replace : goal.returns-in-Replace
returns-in-Replace c =
    let pre = c.requires in
    replaced_by _ _ _ _ _ _ pre.shift_value.1 (head_tested (goal.at.returns-in-Replace c).After-is_head_damaged) c.if-is_head_damaged.false c.decide.ensures pre.shift_value.3
    (c.in_ok-n.was ∙ ap Ok c.in-Replace.is) c.cell_with_frequency-cell.ensures _ c.set_record.ensures.0 _ c.set_record.ensures.1

pub returns-in-Insert : goal.returns-in-Insert
unfolding characters
returns-in-Insert c =
    let pre = c.requires in
    inserted_by _ _ _ _ _ _ pre.shift_value.1 (head_tested (goal.at.returns-in-Insert c).After-is_head_damaged) c.if-is_head_damaged.false c.decide.ensures pre.shift_value.3
    (c.in_ok-n.was ∙ ap Ok c.in-Insert.is) _ c.next_record-n.ensures _ c.insert.ensures _ c.set_record-in-Insert.ensures.0
    _ c.set_record-in-Insert.ensures.1
