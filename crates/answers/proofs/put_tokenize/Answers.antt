-- `answers::put_tokenize` meets its contract: the areas that are lent have document 01's lengths. Assumes nothing.
use Rattle.answers.proofs.Answers.{put_by}
use Rattle.answers.proofs.put_tokenize.Goals as goal

pub returns-clause-put : goal.returns-clause-put
returns-clause-put c = put_by _ _ c.tokenize-cut.ensures.tokens_value _ _ _ _ c.put_cut.ensures.put
