-- `answer_line::answer_line` meets its contract: the line is read as a frame, and the frame is answered by its call. Assumes nothing.
use Rattle.answer_line.proofs.ByKind.{load_answered, cut_answered, no_frame_answered}
use Rattle.answer_line.proofs.answer_line.Goals as goal

pub returns-in_default-clause-answered : goal.returns-in_default-clause-answered
returns-in_default-clause-answered c = no_frame_answered _ _ _ _ _ _ c.in_default.ensures.frame c.put_no_frame.ensures.put

pub returns-in-Load-clause-answered : goal.returns-in-Load-clause-answered
returns-in-Load-clause-answered c = load_answered _ _ _ _ _ _ _ _ c.in-Some.ensures.frame c.in-Load.is _ c.put_load.ensures.answered

pub returns-in-Cut-clause-answered : goal.returns-in-Cut-clause-answered
returns-in-Cut-clause-answered c = cut_answered _ _ _ _ _ _ _ _ c.in-Some.ensures.frame _ c.in-Cut.is c.put_answer.ensures.put
