-- `classes::is_cjk_extension` meets its contract: at each `return` the tests of the `match` leave the code points for which the ranges
-- of `han_extension` give the answer returned. Neighbouring ranges are tested as one, Extensions C to F with I and G with H; `inside`
-- finds that the ranges listed one by one have all of it. Assumes nothing.
use mathlib.Core.List.{[]}
use Rattle.classes.specs.Blocks.{han_extension}
use Rattle.classes.proofs.Ranges.{inside, outside, under}
use Rattle.classes.proofs.is_cjk_extension.Goals as goal

pub returns-in-13312-to-19903 : goal.returns-in-13312-to-19903
unfolding han_extension
returns-in-13312-to-19903 c = search inside

pub returns-in-13312-to-19903-2 : goal.returns-in-13312-to-19903-2
unfolding han_extension
returns-in-13312-to-19903-2 c = search inside

pub returns-in-13312-to-19903-3 : goal.returns-in-13312-to-19903-3
unfolding han_extension
returns-in-13312-to-19903-3 c = search inside

pub returns-in-13312-to-19903-4 : goal.returns-in-13312-to-19903-4
unfolding han_extension
returns-in-13312-to-19903-4 c = search inside

pub returns-in-13312-to-19903-5 : goal.returns-in-13312-to-19903-5
unfolding han_extension
returns-in-13312-to-19903-5 c = search inside

pub returns-in-13312-to-19903-6 : goal.returns-in-13312-to-19903-6
unfolding han_extension
returns-in-13312-to-19903-6 c = search inside

pub returns-in_default : goal.returns-in_default
unfolding han_extension
returns-in_default c = search (under [])

pub returns-in_default-2 : goal.returns-in_default-2
unfolding han_extension
returns-in_default-2 c = search (outside [])

pub returns-in_default-3 : goal.returns-in_default-3
unfolding han_extension
returns-in_default-3 c = search (outside [])

pub returns-in_default-4 : goal.returns-in_default-4
unfolding han_extension
returns-in_default-4 c = search (outside [])

pub returns-in_default-5 : goal.returns-in_default-5
unfolding han_extension
returns-in_default-5 c = search (outside [])

pub returns-in_default-6 : goal.returns-in_default-6
unfolding han_extension
returns-in_default-6 c = search (outside [])

pub returns-in_default-7 : goal.returns-in_default-7
unfolding han_extension
returns-in_default-7 c = search (outside [])
