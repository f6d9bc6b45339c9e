-- `lines::parse_frequency` meets its contract: a field is its sign, if it has one, and the digits after it. Assumes nothing.
use mathlib.Core.Path.{ap, ◌∙◌}
use Rattle.lines.specs.Lines.{number}
use Rattle.lines.proofs.Numbers.{signed, unsigned}
use Rattle.lines.proofs.parse_frequency.Goals as goal

pub returns-in-Some : goal.returns-in-Some
returns-in-Some c = let begins = c.in-Some.ensures.cases in c.parse_digits.ensures ∙ ap number begins.1 ∙ signed _ begins.0

pub returns-in-None : goal.returns-in-None
returns-in-None c = c.parse_digits-in-None.ensures ∙ unsigned _ c.in-None.ensures.cases
