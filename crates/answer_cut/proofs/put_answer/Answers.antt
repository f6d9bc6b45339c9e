-- `answer_cut::put_answer` meets its contract: each kind by its call. Assumes nothing.
use Rattle.answer_cut.proofs.ByKind.{cut_answered, cut_all_answered, search_answered, no_frame_answered}
use Rattle.answer_cut.proofs.put_answer.Goals as goal

pub returns-in-Plain-clause-put : goal.returns-in-Plain-clause-put
returns-in-Plain-clause-put c = cut_answered _ _ _ _ _ _ _ c.in-Some.is c.in-Plain.is c.put_tokenize.ensures.put

pub returns-in-All-clause-put : goal.returns-in-All-clause-put
returns-in-All-clause-put c = cut_all_answered _ _ _ _ _ _ _ c.in-Some.is c.in-All.is c.put_cut_all.ensures.put

pub returns-in-Search-clause-put : goal.returns-in-Search-clause-put
returns-in-Search-clause-put c = search_answered _ _ _ _ _ _ _ c.in-Some.is c.in-Search.is c.put_tokenize-in-Search.ensures.put

pub returns-in_default-clause-put : goal.returns-in_default-clause-put
returns-in_default-clause-put c = no_frame_answered _ _ _ _ _ _ _ c.in_default.is c.put_no_frame.ensures.put
