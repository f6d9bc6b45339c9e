-- `tongsvale::tongsvale_add` meets its contract: a head of another length is refused, else the call's answer in numbers. Assumes nothing.
use Rattle.tongsvale.proofs.Exports.{add_refused_lem, word_added, word_refused}
use Rattle.tongsvale.proofs.tongsvale_add.Goals as goal

pub returns-then-head-ne-HEAD_LENGTH : goal.returns-then-head-ne-HEAD_LENGTH
returns-then-head-ne-HEAD_LENGTH c = add_refused_lem _ _ _ _ c.if-head-ne-HEAD_LENGTH.true _ c.number_of.ensures _ _

pub returns-in-Ok : goal.returns-in-Ok
returns-in-Ok c =
    word_added _ _ _ _ c.if-head-ne-HEAD_LENGTH.false _ c.read_head-value.ensures _ _ _ _ c.add_word-added.ensures.logarithms_value _ c.write_head.ensures
    c.in-Ok.is

pub returns-in-Err : goal.returns-in-Err
returns-in-Err c =
    word_refused _ _ _ _ c.if-head-ne-HEAD_LENGTH.false _ c.read_head-value.ensures _ _ _ _ c.add_word-added.ensures.logarithms_value _ c.write_head.ensures
    c.in-Err.is _ c.number_of-in-Err.ensures
