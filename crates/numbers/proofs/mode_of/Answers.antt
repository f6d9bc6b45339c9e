-- `numbers::mode_of` meets its contract: 1 is search. Assumes nothing.
use Rattle.numbers.proofs.Numbers.{to_search, to_default}
use Rattle.numbers.proofs.mode_of.Goals as goal

pub returns-then-mode-eq-SEARCH : goal.returns-then-mode-eq-SEARCH
returns-then-mode-eq-SEARCH c = to_search _ c.if-mode-eq-SEARCH.true

pub returns : goal.returns
returns c = to_default _ c.if-mode-eq-SEARCH.false
