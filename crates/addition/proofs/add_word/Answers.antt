-- `addition::add_word` meets its contract: each `return` is the case of `add_of` that the tests before it say, and so in numbers; behind them the word
-- enters as `load_entry` says. Assumes nothing.
use Rattle.std.specs.Prelude.{Ok, Err}
use Rattle.std.proofs.Common.{rules}
use mathlib.Core.Path.{◌≡◌}
use native.Mathlib.Omega.{arith}
use lib.ListN.{length}
use Rattle.trie.specs.Trie.{trie_of}
use Rattle.book.specs.Areas.{areas_allowed, book_of}
use Rattle.book.specs.Returns.{sized}
use Rattle.book.proofs.Areas.{slots_allowed}
use Rattle.book.proofs.Numbers.{added_in_numbers}
use Rattle.lookup.specs.Tests.{tested_word}
use Rattle.lookup.proofs.Tests.{Passed, passed, well_formed}
use Rattle.lookup.proofs.Lookups.{tested_lent}
use Rattle.addition.proofs.Additions.{refused, empty, entered_lem, not_entered}
use Rattle.addition.proofs.add_word.Goals as goal
use Rattle.addition.proofs.add_word.Goals.{After-from_residual, After-from_residual-in_err-load_entry, After-test_word, Else-chars-eq0}

-- ---- the places of the code: the book and the word are lent, the word passes its tests, its frequency fits, it enters

-- the tests are those of the book
tested : (c : goal.After-test_word) → let a = c.args in c.test_word.result
    ≡ tested_word (sized (book_of a.head.now (trie_of a.roots.now a.slots.now) a.records.now a.logarithms.now)) a.word.now
tested c =
    let a = c.args in
    tested_lent a.head.now a.roots.now a.slots.now a.records.now a.logarithms.now a.word.now c.test_word.ensures

-- a word that passes them has characters, and the areas have their sizes
passes : (c : goal.Else-chars-eq0) → let a = c.args in
    Passed (areas_allowed (length a.roots.now) (length a.slots.now) (length a.records.now) (length a.logarithms.now)) a.word.now
passes c = passed c.test_word.ensures c.in_ok-chars.was c.if-chars-eq0.false

refused_as : (c : goal.After-from_residual) → c.from_residual.result ≡ Err c.in_err-chars.field-0.0
refused_as c = search rules

pub returns-in_err-chars : goal.returns-in_err-chars
returns-in_err-chars c = let all = added_in_numbers _ _ (rw (refused_as c) (refused _ _ _ _ _ _ (tested (goal.at.returns-in_err-chars c).After-test_word) c.in_err-chars.was)) in record { logarithms_value = all.0; frequency_value = all.1 }

pub returns-then-chars-eq0 : goal.returns-then-chars-eq0
returns-then-chars-eq0 c = let all = added_in_numbers (Ok 0) _ (empty _ _ _ _ _ _ (tested (goal.at.returns-then-chars-eq0 c).After-test_word) c.in_ok-chars.was c.if-chars-eq0.true) in record { logarithms_value = all.0; frequency_value = all.1 }

pub shift_of-shift-requires : goal.shift_of-shift-requires
shift_of-shift-requires c = slots_allowed _ _ _ _ (passes (goal.at.shift_of-shift-requires c).Else-chars-eq0).sized

pub load_entry-requires : goal.load_entry-requires
load_entry-requires c = let word = passes (goal.at.load_entry-requires c).Else-chars-eq0 in
    record { logarithms_value = word.sized; shift_value = (c.shift_of-shift.ensures, well_formed word, word.short, c.log-logarithm.ensures) }

entry_refused_as : (c : goal.After-from_residual-in_err-load_entry) → c.from_residual-in_err-load_entry.result ≡ Err c.in_err-load_entry.field-0.0
entry_refused_as c = search rules

pub returns-in_err-load_entry : goal.returns-in_err-load_entry
returns-in_err-load_entry c = let all = added_in_numbers _ _ (rw (entry_refused_as c)
    (not_entered _ _ _ _ _ _ (tested (goal.at.returns-in_err-load_entry c).After-test_word) c.in_ok-chars.was c.if-chars-eq0.false (omega arith) _
    c.load_entry.ensures c.in_err-load_entry.was)) in record { logarithms_value = all.0; frequency_value = all.1 }

pub returns : goal.returns
returns c = let all = added_in_numbers (Ok c.args.frequency) _
    (entered_lem _ _ _ _ _ _ (tested (goal.at.returns c).After-test_word) c.in_ok-chars.was c.if-chars-eq0.false (omega arith) _
    c.load_entry.ensures c.in_ok-load_entry.was) in record { logarithms_value = all.0; frequency_value = all.1 }
