-- `lookup::lookup` meets its contract: each `return` is the case of `lookup_of` that the tests before it say, and so in numbers. Assumes nothing.
use Rattle.std.specs.Prelude.{Some, Ok, Err}
use Rattle.std.proofs.Common.{rules}
use mathlib.Core.Path.{◌≡◌, ap, ◌∙◌}
use Prim.Native.Nat.{◌<◌}
use native.Mathlib.Omega.{arith}
use lib.ListN.{length}
use Rattle.trie.specs.Trie.{trie_of, WordNumber}
use Rattle.book.specs.Areas.{areas_allowed, book_of}
use Rattle.book.specs.Returns.{Book, sized, damaged_head, found_by, lookup_of}
use Rattle.book.proofs.Areas.{slots_whole, slots_allowed, slots_most, slot_table, records_most, damaged_lent}
use Rattle.book.proofs.Numbers.{found_in_numbers}
use Rattle.lookup.specs.Tests.{tested_word}
use Rattle.lookup.proofs.Tests.{Passed, passed, well_formed}
use Rattle.lookup.proofs.Lookups.{refused, empty, head_damaged_lem, looked_up_lem, record_inside, tested_lent}
use Rattle.lookup.proofs.lookup.Goals as goal
use Rattle.lookup.proofs.lookup.Goals.{After-get, After-is_head_damaged, After-test_word, After-from_residual, In-Ok-Some, Else-chars-eq0}

-- ---- the places of the code: the book and the word are lent, the word passes its tests, the head is sound, the word is looked up and held

abbrev book : goal.After-test_word → Book
book c = let a = c.args in book_of a.head (trie_of a.roots.now a.slots.now) a.records.now a.logarithms.now

-- the tests are those of the book
tested : (c : goal.After-test_word) → c.test_word.result ≡ tested_word (sized (book c)) c.args.word.now
tested c =
    let a = c.args in
    tested_lent a.head a.roots.now a.slots.now a.records.now a.logarithms.now a.word.now c.test_word.ensures

-- a word that passes them has characters, and the areas have their sizes
module _ (c : goal.Else-chars-eq0) where
  passes : Passed (areas_allowed (length c.args.roots.now) (length c.args.slots.now) (length c.args.records.now)
      (length c.args.logarithms.now)) c.args.word.now
  passes = passed c.test_word.ensures c.in_ok-chars.was c.if-chars-eq0.false

head_tested : (c : goal.After-is_head_damaged) → c.is_head_damaged.result ≡ damaged_head (book (goal.at.After-is_head_damaged c).After-test_word)
head_tested c =
    let a = c.args in
    let even = slots_whole _ _ _ _ (passes (goal.at.After-is_head_damaged c).Else-chars-eq0).sized in
    c.is_head_damaged.ensures ∙ damaged_lent a.head a.roots.now a.slots.now a.records.now a.logarithms.now even

-- what is found is answered, and the record of a word that is held is one of the book's
module _ (c : goal.After-get) where
  answers : {g : WordNumber} → c.get.result ≡ g → found_by (book (goal.at.After-get c).After-test_word) g ≡ lookup_of (book (goal.at.After-get c).After-test_word) c.args.word.now
  answers e = looked_up_lem _ _ (tested (goal.at.After-get c).After-test_word) c.in_ok-chars.was c.if-chars-eq0.false (head_tested (goal.at.After-get c).After-is_head_damaged) c.if-is_head_damaged.false c.get.ensures e

inside : (c : goal.In-Ok-Some) → c.in-Ok-Some.n < length c.args.records.now
inside c =
    record_inside _ _ _ c.is_head_damaged.ensures c.if-is_head_damaged.false _ _ c.get.ensures (c.in-Ok-Some.is ∙ ap Ok c.in-Ok-Some.field-0-is)

refused_as : (c : goal.After-from_residual) → c.from_residual.result ≡ Err c.in_err-chars.field-0.0
refused_as c = search rules

pub returns-in_err-chars : goal.returns-in_err-chars
returns-in_err-chars c = let all = found_in_numbers (refused_as c ∙ refused _ _ (tested (goal.at.returns-in_err-chars c).After-test_word) c.in_err-chars.was) in record { value = all.0; result_value = all.1 }

pub returns-then-chars-eq0 : goal.returns-then-chars-eq0
returns-then-chars-eq0 c = let all = found_in_numbers (empty _ _ (tested (goal.at.returns-then-chars-eq0 c).After-test_word) c.in_ok-chars.was c.if-chars-eq0.true) in record { value = all.0; result_value = all.1 }

pub is_head_damaged-requires : goal.is_head_damaged-requires
is_head_damaged-requires c = slots_most _ _ _ _ (passes c).sized

pub returns-then-is_head_damaged : goal.returns-then-is_head_damaged
returns-then-is_head_damaged c = let all = found_in_numbers (head_damaged_lem (book (goal.at.returns-then-is_head_damaged c).After-test_word) _ (tested (goal.at.returns-then-is_head_damaged c).After-test_word) c.in_ok-chars.was c.if-chars-eq0.false (head_tested (goal.at.returns-then-is_head_damaged c).After-is_head_damaged) c.if-is_head_damaged.true) in record { value = all.0; result_value = all.1 }

pub shift_of-shift-requires : goal.shift_of-shift-requires
shift_of-shift-requires c = slots_allowed _ _ _ _ (passes (goal.at.shift_of-shift-requires c).Else-chars-eq0).sized

pub invariant_of-slots : goal.invariant_of-slots
invariant_of-slots c =
    record { table = slot_table _ _ _ _ (passes (goal.at.invariant_of-slots c).Else-chars-eq0).sized _ c.shift_of-shift.ensures }

pub get-requires : goal.get-requires
get-requires c = well_formed (passes (goal.at.get-requires c).Else-chars-eq0)

pub offset_bounds-records-n : goal.offset_bounds-records-n
offset_bounds-records-n c = omega (arith, inside c, records_most _ _ _ _ (passes (goal.at.offset_bounds-records-n c).Else-chars-eq0).sized)

pub bounds-records-n : goal.bounds-records-n
bounds-records-n c = inside (goal.at.bounds-records-n c).In-Ok-Some

pub returns-in-Ok-Some : goal.returns-in-Ok-Some
returns-in-Ok-Some c = let all = found_in_numbers (ap (λ n. Ok (Some n)) c.cell_frequency.ensures ∙ answers (goal.at.returns-in-Ok-Some c).After-get (c.in-Ok-Some.is ∙ ap Ok c.in-Ok-Some.field-0-is)) in record { value = all.0; result_value = all.1 }

pub returns-in-Ok-None : goal.returns-in-Ok-None
returns-in-Ok-None c = let all = found_in_numbers (answers (goal.at.returns-in-Ok-None c).After-get (c.in-Ok-None.is ∙ ap Ok c.in-Ok-None.field-0-is)) in record { value = all.0; result_value = all.1 }

pub returns-in-Err : goal.returns-in-Err
returns-in-Err c = let all = found_in_numbers (answers (goal.at.returns-in-Err c).After-get c.in-Err.is) in record { value = all.0; result_value = all.1 }
