-- `word_walk::new_steps` meets its contract, by the laws of `NewSteps`. Assumes nothing.
use Rattle.word_walk.proofs.NewSteps.{count_known, count_positive, new_from_root, new_below}
use Rattle.word_walk.proofs.new_steps.Goals as goal

pub unreachable-requires : goal.unreachable-requires
unreachable-requires c = search count_known

pub overflow_sub-slots : goal.overflow_sub-slots
overflow_sub-slots c = search count_positive

pub returns-then-from_root : goal.returns-then-from_root
returns-then-from_root c = λ slots cs all. search new_from_root

pub returns : goal.returns
returns c = λ slots cs all. search new_below
