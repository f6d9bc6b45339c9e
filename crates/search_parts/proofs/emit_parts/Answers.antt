-- `search_parts::emit_parts` meets its contract. The loop's invariant is `PartsPut`: the part that starts at `from` is read, and those before it are written.
-- Each turn writes the part read, if it is searched for, and reads the next. Assumes nothing.
use Rattle.std.specs.Prelude.{Err}
use Rattle.std.proofs.Common.{rules}
use mathlib.Core.Path.{◌≡◌}
use native.Mathlib.Omega.{arith}
use Rattle.search_parts.proofs.Turns.{no_parts, parts_begin, part_refused, part_put, part_last}
use Rattle.search_parts.proofs.emit_parts.Goals as goal
use Rattle.search_parts.proofs.emit_parts.Goals.{After-from_residual}

pub returns-then-part-y : goal.returns-then-part-y
returns-then-part-y c =
    no_parts _ _ _ _ _ _ _ c.requires.1 c.next_part-part.ensures c.if-part-y.true

pub loop-part-init : goal.loop-part-init
loop-part-init c =
    parts_begin _ _ _ _ _ _ _ c.requires.1 c.next_part-part.ensures c.if-part-y.false

pub emit_part-requires : goal.emit_part-requires
emit_part-requires c =
    let run = c.loop-part.invariant.found.run in
    let pre = c.requires in
    (run.forward, omega (arith, run.inside, pre), omega (arith, run.inside, pre))

refused_as : (c : goal.After-from_residual) → c.from_residual.result ≡ Err c.in_err-count.field-0.0
refused_as c = search rules

pub returns-in_err-count : goal.returns-in_err-count
returns-in_err-count c =
    rw (refused_as c)
    (part_refused _ _ _ _ _ _ _ c.requires.1 c.loop-part.invariant c.emit_part.result _ c.emit_part.ensures c.loop-part-test.true
    c.in_err-count.was)

pub overflow_add-from : goal.overflow_add-from
overflow_add-from c =
    omega (arith, c.loop-part-test.true, c.ranges.y.fits)

pub next_part-part-requires-in-loop-part : goal.next_part-part-requires-in-loop-part
next_part-part-requires-in-loop-part c =
    (omega (arith, c.loop-part-test.true), c.requires.1)

pub loop-part-smaller : goal.loop-part-smaller
loop-part-smaller c =
    omega (arith, c.loop-part-test.true, c.loop-part.invariant.found.run.forward)

pub loop-part-preserved : goal.loop-part-preserved
loop-part-preserved c =
    part_put _ _ _ _ _ _ _ c.requires.1 c.loop-part.invariant c.emit_part.result _ c.emit_part.ensures c.loop-part-test.true
    c.in_ok-count.was
    c.emit_part.auto.tokens c.next_part-part-in-loop-part.ensures

pub emit_part-requires-2 : goal.emit_part-requires-2
emit_part-requires-2 c =
    let run = c.loop-part.invariant.found.run in
    let pre = c.requires in
    (run.forward, omega (arith, run.inside, pre), omega (arith, run.inside, pre))

pub returns : goal.returns
returns c =
    part_last _ _ _ _ _ _ _ c.requires.1 c.loop-part.invariant c.emit_part-2.result _ c.emit_part-2.ensures c.loop-part-test.false
