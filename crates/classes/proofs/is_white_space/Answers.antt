-- `classes::is_white_space` meets its contract: at each `return` the tests of the `match` leave the code points for which the ranges
-- of `white_space` give the answer returned. Assumes nothing.
use mathlib.Core.List.{List, [], ◌∷◌}
use Prim.Native.Nat.{ℕ}
use Rattle.classes.specs.WhiteSpace.{white_space}
use Rattle.classes.proofs.Ranges.{inside, listed, outside, under}
use Rattle.classes.proofs.is_white_space.Goals as goal

-- the code points that the `match` tests one by one; of neighbours it makes a range
abbrev points : List ℕ
points = 0x20 ∷ 0x85 ∷ 0xA0 ∷ 0x1680 ∷ 0x202F ∷ 0x205F ∷ 0x3000 ∷ []

pub returns-in_default : goal.returns-in_default
unfolding white_space
returns-in_default c = search (under [])

pub returns-in_default-2 : goal.returns-in_default-2
unfolding white_space
returns-in_default-2 c = search (outside points)

pub returns-in_default-3 : goal.returns-in_default-3
unfolding white_space
returns-in_default-3 c = search (outside [])

pub returns-in_default-4 : goal.returns-in_default-4
unfolding white_space
returns-in_default-4 c = search (outside points)

pub returns-in-9-to-13 : goal.returns-in-9-to-13
unfolding white_space
returns-in-9-to-13 c = search (listed points)

pub returns-in-9-to-13-2 : goal.returns-in-9-to-13-2
unfolding white_space
returns-in-9-to-13-2 c = search inside

pub returns-in-9-to-13-3 : goal.returns-in-9-to-13-3
unfolding white_space
returns-in-9-to-13-3 c = search inside

pub returns-in-9-to-13-4 : goal.returns-in-9-to-13-4
unfolding white_space
returns-in-9-to-13-4 c = search inside
