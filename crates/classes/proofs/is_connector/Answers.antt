-- `classes::is_connector` meets its contract: at each `return` the tests of the `match` leave the code points for which the ranges
-- of `connector` give the answer returned. Assumes nothing.
use mathlib.Core.List.{List, [], ◌∷◌}
use Prim.Native.Nat.{ℕ}
use Rattle.classes.specs.Tokens.{connector}
use Rattle.classes.proofs.Ranges.{inside, listed, outside, under}
use Rattle.classes.proofs.is_connector.Goals as goal

-- the code points that the `match` tests one by one; of neighbours it makes a range
abbrev points : List ℕ
points = 0x5F ∷ []

pub returns-in_default : goal.returns-in_default
unfolding connector
returns-in_default c = search (under [])

pub returns-in_default-2 : goal.returns-in_default-2
unfolding connector
returns-in_default-2 c = search (outside points)

pub returns-in-46 : goal.returns-in-46
unfolding connector
returns-in-46 c = search (listed points)

pub returns-in-46-2 : goal.returns-in-46-2
unfolding connector
returns-in-46-2 c = search inside
