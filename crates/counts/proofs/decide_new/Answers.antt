-- `counts::decide_new` meets its contract: each `return` is the case of `insert_by` that the tests before it say. Assumes nothing.
use mathlib.Core.Bool.{false}
use mathlib.Core.Path.{◌≡◌, sym, ◌∙◌}
use Prim.Native.Nat.{◌/◌}
use lib.Dec.{ltb}
use lib.ListN.{length}
use Rattle.trie.specs.Trie.{keys_of}
use Rattle.trie.proofs.Packed.{keys_whole}
use Rattle.book.proofs.Decisions.{total_passes, records_taken, slots_taken, slots_missing, nodes_missing, new_enters}
use Rattle.book.specs.Enter.{no_record, empty_slots}
use Rattle.empties.proofs.Empties.{too_few, enough}
use Rattle.counts.proofs.decide_new.Goals as goal
use Rattle.counts.proofs.decide_new.Goals.{Else-no_record, Else-not-has_empty}

-- ---- the places of the code, and what the tests before each of them say

a_record : (c : goal.Else-no_record) → no_record c.args.head c.args.records ≡ false
a_record c = sym c.no_record.ensures ∙ c.if-no_record.false

empty_enough : (c : goal.Else-not-has_empty) → ltb (empty_slots (keys_of c.args.table.now))
    c.args.slots ≡ false
empty_enough c = let a = c.args in
    enough _ a.slots (empty_slots (keys_of a.table.now)) c.has_empty.ensures c.if-not-has_empty.false-raw

long : (c : goal.Else-no_record) → length (keys_of c.args.table.now) ≡ length c.args.table.now / 2
long c = keys_whole _ c.requires.table_len_bound.2

pub returns-then-total-gt-GREATEST_TOTAL : goal.returns-then-total-gt-GREATEST_TOTAL
returns-then-total-gt-GREATEST_TOTAL c = let a = c.args in total_passes a.head a.records (keys_of a.table.now) a.slots a.nodes a.frequency c.if-total-gt-GREATEST_TOTAL.true

pub returns-then-no_record : goal.returns-then-no_record
returns-then-no_record c = let a = c.args in
    records_taken a.head a.records (keys_of a.table.now) a.slots a.nodes a.frequency c.if-total-gt-GREATEST_TOTAL.false
    (sym c.no_record.ensures ∙ c.if-no_record.true)

pub returns-then-most-head : goal.returns-then-most-head
returns-then-most-head c =
    let a = c.args in
    slots_taken a.head a.records (keys_of a.table.now) a.slots a.nodes a.frequency c.if-total-gt-GREATEST_TOTAL.false (a_record (goal.at.returns-then-most-head c).Else-no_record) _ (long (goal.at.returns-then-most-head c).Else-no_record) c.if-most-head.true

pub returns-then-not-has_empty : goal.returns-then-not-has_empty
returns-then-not-has_empty c =
    let a = c.args in
    slots_missing a.head a.records (keys_of a.table.now) a.slots a.nodes a.frequency c.if-total-gt-GREATEST_TOTAL.false (a_record (goal.at.returns-then-not-has_empty c).Else-no_record) _ (long (goal.at.returns-then-not-has_empty c).Else-no_record)
    c.if-most-head.false (too_few _ a.slots (empty_slots (keys_of a.table.now)) c.has_empty.ensures c.if-not-has_empty.true-raw)

pub returns-then-head-nodes-gt-GREATEST_NEXT : goal.returns-then-head-nodes-gt-GREATEST_NEXT
returns-then-head-nodes-gt-GREATEST_NEXT c =
    let a = c.args in
    nodes_missing a.head a.records (keys_of a.table.now) a.slots a.nodes a.frequency c.if-total-gt-GREATEST_TOTAL.false (a_record (goal.at.returns-then-head-nodes-gt-GREATEST_NEXT c).Else-no_record) _ (long (goal.at.returns-then-head-nodes-gt-GREATEST_NEXT c).Else-no_record)
    c.if-most-head.false (empty_enough (goal.at.returns-then-head-nodes-gt-GREATEST_NEXT c).Else-not-has_empty) c.if-head-nodes-gt-GREATEST_NEXT.true

pub returns : goal.returns
returns c =
    let a = c.args in
    new_enters a.head a.records (keys_of a.table.now) a.slots a.nodes a.frequency c.if-total-gt-GREATEST_TOTAL.false (a_record (goal.at.returns c).Else-no_record) _ (long (goal.at.returns c).Else-no_record)
    c.if-most-head.false (empty_enough (goal.at.returns c).Else-not-has_empty) c.if-head-nodes-gt-GREATEST_NEXT.false
