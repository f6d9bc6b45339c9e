-- `sentence::shorter` meets its contract: by its test. Assumes nothing.
use native.Mathlib.Omega.{arith}
use Rattle.sentence.proofs.Beginning.{second_is_shorter, first_is_shorter}
use Rattle.sentence.proofs.shorter.Goals as goal

pub returns-then-b-a : goal.returns-then-b-a
returns-then-b-a c = second_is_shorter _ _ (omega (arith, c.if-b-a))

pub returns : goal.returns
returns c = first_is_shorter _ _ (omega (arith, c.if-b-a))
