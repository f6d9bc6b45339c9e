-- `score::minus_infinity` meets its contract, by computation. Assumes nothing.
use mathlib.Core.Path.{refl}
use lib.Ieee.{of_bits}
use Rattle.score.specs.Scores.{float_of}
use Rattle.score.proofs.minus_infinity.Goals as goal

pub returns : goal.returns
unfolding of_bits float_of
returns c = refl
