-- `search_parts::next_part` meets its contract. The loop's invariant is `Reading`: the characters passed are no connectors, and it is known whether a letter is
-- among them. Assumes nothing.
use mathlib.Core.Path.{◌≡◌}
use native.Mathlib.Omega.{arith}
use Rattle.search_parts.proofs.Parts.{reading_begins, reading_ends, reading_stops, passes_letter, passes_other}
use Rattle.search_parts.proofs.next_part.Goals as goal
use Rattle.search_parts.proofs.next_part.Goals.{then-is_ascii_alphabetic, else-is_ascii_alphabetic}

pub loop-end-init : goal.loop-end-init
loop-end-init c = reading_begins _ _ _ (omega arith)

pub loop-end-preserved : goal.loop-end-preserved
loop-end-preserved c =
    let long = c.requires.1 in
    let inside = c.loop-end-test.true in
    elim c.if-is_ascii_alphabetic.branch [
      | then-is_ascii_alphabetic w ↦ rw w.lettered-is (passes_letter c.loop-end.invariant _ c.is_connector.ensures inside long c.if-is_connector.false _
          c.is_ascii_alphabetic.ensures w.if-is_ascii_alphabetic.true)
      | else-is_ascii_alphabetic w ↦ rw w.lettered-is (passes_other c.loop-end.invariant _ c.is_connector.ensures inside long c.if-is_connector.false _
          c.is_ascii_alphabetic.ensures w.if-is_ascii_alphabetic.false)
    ]

pub returns : goal.returns
returns c =
    let there : c.loop-end.end ≡ c.args.to = omega (arith, c.loop-end.invariant.run.inside) in
    rw there at (reading_ends c.loop-end.invariant c.loop-end-test.false)

pub returns-then-is_connector : goal.returns-then-is_connector
returns-then-is_connector c = reading_stops c.loop-end.invariant _ c.is_connector.ensures c.if-is_connector.true
