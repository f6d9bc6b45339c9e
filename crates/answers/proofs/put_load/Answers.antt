-- `answers::put_load` meets its contract: the line and the book are those that the load answers and leaves. Assumes nothing.
use mathlib.Core.Path.{refl}
use Rattle.book.specs.Enter.{loaded}
use Rattle.std.specs.Prelude.{Ok, Err}
use Rattle.answers.proofs.Answers.{load_put}
use Rattle.answers.proofs.put_load.Goals as goal

pub returns-in-Ok-clause-answered : goal.returns-in-Ok-clause-answered
returns-in-Ok-clause-answered c =
    load_put _ _ (loaded (Ok c.in-Ok.lines) _) (rw c.in-Ok.is at c.load_dict.ensures.logarithms_value) _ _ _ _ _ refl c.put_answer.ensures.put

pub returns-in-Err-clause-answered : goal.returns-in-Err-clause-answered
returns-in-Err-clause-answered c =
    load_put _ _ (loaded (Err _) _) (rw c.in-Err.is at c.load_dict.ensures.logarithms_value) _ _ _ _ _ c.number_of.ensures c.put_answer-in-Err.ensures.put
