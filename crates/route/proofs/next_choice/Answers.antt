-- `route::next_choice` meets its contract: the tests on the way to each `return` are the premises of a law of `Choices`, which says that `chosen` takes
-- the same edge.
-- Assumes nothing.
use Rattle.route.proofs.Choices.{take_first, take_greater, take_further, keep_further, keep_old}
use Rattle.route.proofs.next_choice.Goals as goal

pub returns-then-old-new : goal.returns-then-old-new
returns-then-old-new c = let all = take_greater _ _ _ _ _ _ _ c.in-Best.is c.if-old-new.true in record { result_value = all.0; fact = all.1 }

pub returns-then-old_end-end : goal.returns-then-old_end-end
returns-then-old_end-end c = let all = take_further _ _ _ _ _ _ _ c.in-Best.is c.if-old-new.false c.if-new-old.true c.if-old_end-end.true in record { result_value = all.0; fact = all.1 }

pub returns-then-new-old : goal.returns-then-new-old
returns-then-new-old c = let all = keep_further _ _ _ _ _ _ _ c.in-Best.is c.if-old-new.false c.if-new-old.true c.if-old_end-end.false in record { result_value = all.0; fact = all.1 }

pub returns-in-NoEdge : goal.returns-in-NoEdge
returns-in-NoEdge c = let all = take_first _ _ _ _ c.in-NoEdge.is in record { result_value = all.0; fact = all.1 }

pub returns-else-new-old : goal.returns-else-new-old
returns-else-new-old c = let all = keep_old _ _ _ _ _ _ _ c.in-Best.is c.if-old-new.false c.if-new-old.false in record { result_value = all.0; fact = all.1 }
