-- `tongsvale::tongsvale_load` meets its contract: a head of another length is refused, else the call's answer in numbers. Assumes nothing.
use Rattle.tongsvale.proofs.Exports.{load_refused, all_loaded, load_stopped}
use Rattle.tongsvale.proofs.tongsvale_load.Goals as goal

pub returns-then-head-ne-HEAD_LENGTH : goal.returns-then-head-ne-HEAD_LENGTH
returns-then-head-ne-HEAD_LENGTH c = load_refused _ _ _ _ c.if-head-ne-HEAD_LENGTH.true _ c.number_of.ensures _

pub returns-in-Ok : goal.returns-in-Ok
returns-in-Ok c =
    all_loaded _ _ _ _ c.if-head-ne-HEAD_LENGTH.false _ c.read_head-value.ensures _ _ _ c.load_dict-loaded.ensures.logarithms_value _ c.write_head.ensures
    c.in-Ok.is

pub returns-in-Err : goal.returns-in-Err
returns-in-Err c =
    load_stopped _ _ _ _ c.if-head-ne-HEAD_LENGTH.false _ c.read_head-value.ensures _ _ _ c.load_dict-loaded.ensures.logarithms_value _ c.write_head.ensures
    c.in-Err.is _ c.number_of-in-Err.ensures
