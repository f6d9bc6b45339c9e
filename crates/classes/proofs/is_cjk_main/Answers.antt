-- `classes::is_cjk_main` meets its contract: at each `return` the tests of the `match` leave the code points for which the ranges
-- of `han_main` give the answer returned. Assumes nothing.
use mathlib.Core.List.{[]}
use Rattle.classes.specs.Blocks.{han_main}
use Rattle.classes.proofs.Ranges.{inside, outside, under}
use Rattle.classes.proofs.is_cjk_main.Goals as goal

pub returns-in-19968-to-40959 : goal.returns-in-19968-to-40959
unfolding han_main
returns-in-19968-to-40959 c = search inside

pub returns-in_default : goal.returns-in_default
unfolding han_main
returns-in_default c = search (under [])

pub returns-in_default-2 : goal.returns-in_default-2
unfolding han_main
returns-in_default-2 c = search (outside [])
