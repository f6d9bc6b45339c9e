use Prim.Native.Nat.{◌-◌}
use lib.ListN.{length}
use Rattle.cut_all_blocks.proofs.Blocks.{SameLong, Cutting}
use Rattle.cut_all_blocks.proofs.cut_all_blocks.Given as goal

abbrev pub invariant-loop-chars : goal.invariant-loop-chars
invariant-loop-chars l = SameLong l.chars l.initial.chars l.offsets l.initial.offsets l.tokens l.initial.tokens × Cutting l.roots l.slots l.used l.sentence l.initial.tokens l.tokens l.at l.units l.base l.count

abbrev pub decreases-loop-chars : goal.decreases-loop-chars
decreases-loop-chars l = length l.sentence - l.at
