-- `search_parts::is_ascii_alphabetic` meets its contract: at each `return` the tests of the `match` leave the code points for which the ranges
-- of `ascii_letter` give the answer returned. Assumes nothing.
use mathlib.Core.List.{[]}
use Rattle.classes.specs.Tokens.{ascii_letter}
use Rattle.classes.proofs.Ranges.{inside, outside, under}
use Rattle.search_parts.proofs.is_ascii_alphabetic.Goals as goal

pub returns-in-65-to-90 : goal.returns-in-65-to-90
unfolding ascii_letter
returns-in-65-to-90 c = search inside

pub returns-in-65-to-90-2 : goal.returns-in-65-to-90-2
unfolding ascii_letter
returns-in-65-to-90-2 c = search inside

pub returns-in_default : goal.returns-in_default
unfolding ascii_letter
returns-in_default c = search (under [])

pub returns-in_default-2 : goal.returns-in_default-2
unfolding ascii_letter
returns-in_default-2 c = search (outside [])

pub returns-in_default-3 : goal.returns-in_default-3
unfolding ascii_letter
returns-in_default-3 c = search (outside [])
