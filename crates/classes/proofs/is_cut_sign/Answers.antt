-- `classes::is_cut_sign` meets its contract: at each `return` the tests of the `match` leave the code points for which the ranges
-- of `cut_sign` give the answer returned. Assumes nothing.
use mathlib.Core.List.{List, [], ◌∷◌}
use Prim.Native.Nat.{ℕ}
use Rattle.classes.specs.Blocks.{cut_sign}
use Rattle.classes.proofs.Ranges.{inside, listed, outside, under}
use Rattle.classes.proofs.is_cut_sign.Goals as goal

-- the code points that the `match` tests one by one; of neighbours it makes a range
abbrev points : List ℕ
points = 0x23 ∷ 0x2B ∷ 0x5F ∷ []

pub returns-in_default : goal.returns-in_default
unfolding cut_sign
returns-in_default c = search (under points)

pub returns-in_default-2 : goal.returns-in_default-2
unfolding cut_sign
returns-in_default-2 c = search (outside points)

pub returns-in_default-3 : goal.returns-in_default-3
unfolding cut_sign
returns-in_default-3 c = search (outside points)

pub returns-in-43 : goal.returns-in-43
unfolding cut_sign
returns-in-43 c = search (listed points)

pub returns-in-43-2 : goal.returns-in-43-2
unfolding cut_sign
returns-in-43-2 c = search inside

pub returns-in-43-3 : goal.returns-in-43-3
unfolding cut_sign
returns-in-43-3 c = search inside
