-- `empties::still_wanted` meets its contract. The loop's invariant: what is still wanted after the slots from the place on is what is wanted after all of them.
-- Assumes nothing.
use native.Mathlib.Omega.{arith}
use Rattle.empties.proofs.Empties.{starts, none_wanted, one_found, none_found, all_seen, in_slots, past_slots}
use Rattle.empties.proofs.still_wanted.Goals as goal

pub loop-i-init : goal.loop-i-init
loop-i-init c = starts _ _

pub returns-then-left-eq0 : goal.returns-then-left-eq0
returns-then-left-eq0 c = none_wanted _ _ _ _ c.loop-i.invariant c.if-left-eq0.true

pub loop-i-preserved : goal.loop-i-preserved
loop-i-preserved c =
    let inv = c.loop-i.invariant in
    let slot = in_slots _ _ c.requires c.loop-i-test.true in
    grind (arith, one_found _ _ _ _ inv slot _ c.key_at.ensures, none_found _ _ _ _ inv slot _ c.key_at.ensures)

pub returns : goal.returns
returns c = all_seen _ _ _ _ c.loop-i.invariant (past_slots _ _ c.requires c.loop-i-test.false)
