-- `classes::is_ascii_alphanumeric` meets its contract: at each `return` the tests of the `match` leave the code points for which the ranges
-- of `ascii_letter_or_digit` give the answer returned. Assumes nothing.
use mathlib.Core.List.{[]}
use Rattle.classes.specs.Blocks.{ascii_letter_or_digit}
use Rattle.classes.proofs.Ranges.{inside, outside, under}
use Rattle.classes.proofs.is_ascii_alphanumeric.Goals as goal

pub returns-in-48-to-57 : goal.returns-in-48-to-57
unfolding ascii_letter_or_digit
returns-in-48-to-57 c = search inside

pub returns-in-48-to-57-2 : goal.returns-in-48-to-57-2
unfolding ascii_letter_or_digit
returns-in-48-to-57-2 c = search inside

pub returns-in-48-to-57-3 : goal.returns-in-48-to-57-3
unfolding ascii_letter_or_digit
returns-in-48-to-57-3 c = search inside

pub returns-in_default : goal.returns-in_default
unfolding ascii_letter_or_digit
returns-in_default c = search (under [])

pub returns-in_default-2 : goal.returns-in_default-2
unfolding ascii_letter_or_digit
returns-in_default-2 c = search (outside [])

pub returns-in_default-3 : goal.returns-in_default-3
unfolding ascii_letter_or_digit
returns-in_default-3 c = search (outside [])

pub returns-in_default-4 : goal.returns-in_default-4
unfolding ascii_letter_or_digit
returns-in_default-4 c = search (outside [])
