use Prim.Native.Nat.{◌-◌}
use Rattle.search_parts.proofs.Turns.{PartsPut}
use Rattle.search_parts.proofs.emit_parts.Given as goal

abbrev pub invariant-loop-part : goal.invariant-loop-part
invariant-loop-part l = PartsPut l.chars l.offsets l.base l.x l.y l.initial.tokens l.count-2 l.tokens l.count l.from l.part

abbrev pub decreases-loop-part : goal.decreases-loop-part
decreases-loop-part l = l.y - l.from
