-- `answers::put_cut` meets its contract: the number, the count and the numbers are those of the answer. Assumes nothing.
use mathlib.Core.Path.{refl}
use Rattle.std.specs.Prelude.{Ok, Err}
use Rattle.answers.proofs.Answers.{cut_put, cut_within}
use Rattle.cuts.specs.Cuts.{cut_answer}
use Rattle.answers.proofs.put_cut.Goals as goal

pub returns-in-Ok : goal.returns-in-Ok
returns-in-Ok c = rw c.in-Ok.is (record {
  put = cut_put (cut_answer (Ok c.in-Ok.count) c.args.tokens.now) _ _ _ _ _ _ refl c.numbers_of.ensures c.requires.0 c.put_answer.ensures.put;
  upper_bound = cut_within _ _ c.numbers_of.result c.args.tokens.now c.put_answer.ensures.value c.numbers_of.ensures.0;
})

pub returns-in-Err : goal.returns-in-Err
returns-in-Err c = rw c.in-Err.is (record {
  put = cut_put (cut_answer (Err _) c.args.tokens.now) _ _ _ _ _ _ c.number_of.ensures c.numbers_of-in-Err.ensures c.requires.0 c.put_answer-in-Err.ensures.put;
  upper_bound = cut_within _ _ c.numbers_of-in-Err.result c.args.tokens.now c.put_answer-in-Err.ensures.value c.numbers_of-in-Err.ensures.0;
})
