-- `tongsvale::tongsvale_lookup` meets its contract: a head of another length is refused, else the call's answer in numbers. Assumes nothing.
use Rattle.tongsvale.proofs.Exports.{lookup_refused, found_by_lem}
use Rattle.tongsvale.proofs.tongsvale_lookup.Goals as goal

pub returns-then-head-ne-HEAD_LENGTH : goal.returns-then-head-ne-HEAD_LENGTH
returns-then-head-ne-HEAD_LENGTH c = lookup_refused _ _ _ _ c.if-head-ne-HEAD_LENGTH.true _ c.number_of.ensures _

pub returns : goal.returns
returns c =
    found_by_lem _ _ _ _ c.if-head-ne-HEAD_LENGTH.false _ c.read_head.ensures _ c.lookup.result
    c.lookup.ensures.result_value _ c.found_numbers-found.ensures
