-- `dict::load_dict` meets its contract: each `return` is the case of `load_of` that the tests before it say, and so in numbers; behind them the lines from
-- the first position on are the whole text. Assumes nothing.
use mathlib.Core.Path.{◌≡◌, sym, ◌∙◌}
use mathlib.Core.Bool.{true}
use native.Mathlib.Omega.{arith}
use lib.ListN.{length}
use Rattle.trie.specs.Trie.{trie_of}
use Rattle.book.specs.Areas.{areas_allowed, book_of}
use Rattle.book.specs.Returns.{sized}
use Rattle.book.proofs.Areas.{slots_allowed, sized_lent}
use Rattle.book.proofs.Numbers.{loaded_in_numbers}
use Rattle.book.specs.declared.Refusal.TheVariants.{BadAreas}
use Rattle.dict.proofs.Loads.{whole, areas_refused, all_loaded}
use Rattle.dict.proofs.load_dict.Goals as goal
use Rattle.dict.proofs.load_dict.Goals.{After-is_allowed, Else-not-is_allowed}

-- ---- the places of the code: the book and the text are lent, the areas are allowed, the text is short, its lines are loaded

-- the test of the areas is that of the book
tested : (c : goal.After-is_allowed) → let a = c.args in
    c.is_allowed.result ≡ sized (book_of a.head.now (trie_of a.roots.now a.slots.now) a.records.now a.logarithms.now)
tested c =
    let a = c.args in
    c.is_allowed.ensures ∙ sized_lent a.head.now a.roots.now a.slots.now a.records.now a.logarithms.now

passes : (c : goal.Else-not-is_allowed) → let a = c.args in
    areas_allowed (length a.roots.now) (length a.slots.now) (length a.records.now) (length a.logarithms.now) ≡ true
passes c = sym c.is_allowed.ensures ∙ c.if-not-is_allowed.false

pub returns-then-not-is_allowed : goal.returns-then-not-is_allowed
returns-then-not-is_allowed c = let all = loaded_in_numbers (whole BadAreas) _ (areas_refused _ _ (tested (goal.at.returns-then-not-is_allowed c).After-is_allowed) c.if-not-is_allowed.true) in record { logarithms_value = all.0; line_value = all.1 }

pub shift_of-shift-requires : goal.shift_of-shift-requires
shift_of-shift-requires c = slots_allowed _ _ _ _ (passes (goal.at.shift_of-shift-requires c).Else-not-is_allowed)

pub load_lines-requires : goal.load_lines-requires
load_lines-requires c = record { logarithms_value = passes (goal.at.load_lines-requires c).Else-not-is_allowed; shift_value = (c.shift_of-shift.ensures, omega arith) }

pub returns : goal.returns
returns c = let all = loaded_in_numbers _ _ (all_loaded _ _ (tested (goal.at.returns c).After-is_allowed) c.if-not-is_allowed.false (omega arith) c.load_lines.ensures) in record { logarithms_value = all.0; line_value = all.1 }
