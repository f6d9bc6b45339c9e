-- `calc::settle` meets its contract: where there is a best edge it is the entry; where there is none, the lone step's score is that of `settled`, since
-- 0.0 is the double of 0.
-- Assumes nothing.
use lib.Ieee.{of_bits, of_int}
use Rattle.score.specs.Scores.{float_of}
use Rattle.route.proofs.Choices.{lone_step}
use Rattle.calc.proofs.settle.Goals as goal

pub returns-in-NoEdge : goal.returns-in-NoEdge
unfolding of_bits of_int float_of
returns-in-NoEdge c = record { result_value = rw c.in-NoEdge.is (lone_step _ _ _); record_value = rw c.in-NoEdge.is }

pub returns-in-Best : goal.returns-in-Best
returns-in-Best c = record { result_value = rw c.in-Best.is; record_value = rw c.in-Best.is }
