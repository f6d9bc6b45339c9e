-- `printing::put_answer` meets its contract: number, count, numbers and the line's end, each after the one before. Assumes nothing.
use Rattle.printing.proofs.Lines.{line_put}
use Rattle.printing.proofs.put_answer.Goals as goal

pub returns-clause-put : goal.returns-clause-put
returns-clause-put c = line_put _ _ _ _ _ _ _ _ _ c.put_digits.ensures c.put_digits-2.ensures c.put_fours-end.ensures
