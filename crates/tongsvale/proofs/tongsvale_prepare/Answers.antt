-- `tongsvale::tongsvale_prepare` meets its contract: a head of another length is refused, else the call's answer in numbers. Assumes nothing.
use Rattle.tongsvale.proofs.Exports.{prepare_refused, prepare_ready, prepare_not}
use Rattle.tongsvale.proofs.tongsvale_prepare.Goals as goal

pub returns-then-head-ne-HEAD_LENGTH : goal.returns-then-head-ne-HEAD_LENGTH
returns-then-head-ne-HEAD_LENGTH c = prepare_refused _ _ _ _ c.if-head-ne-HEAD_LENGTH.true _ c.number_of.ensures

pub returns-in-Ok : goal.returns-in-Ok
returns-in-Ok c =
    prepare_ready _ _ _ _ c.if-head-ne-HEAD_LENGTH.false _ _ _ _ c.prepare.ensures.logarithms_value _
    c.in-Ok.is _ c.write_head.ensures

pub returns-in-Err : goal.returns-in-Err
returns-in-Err c =
    prepare_not _ _ _ _ c.if-head-ne-HEAD_LENGTH.false _ _ _ _ c.prepare.ensures.logarithms_value _
    c.in-Err.is _ c.number_of-in-Err.ensures
