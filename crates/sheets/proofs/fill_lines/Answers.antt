-- `sheets::fill_lines` meets its contract: at each turn what is written and what is left of the sheet make the whole, and what is written is at most twice as
-- long as what it came from (`FillingLines`), so there is room for the next line. The measure is how much of the sheet is left. Assumes nothing.
use Prim.Native.Nat.{◌+◌, ◌*◌, ◌≤◌}
use native.Mathlib.Omega.{arith}
use lib.ListN.{length}
use Rattle.lines.proofs.Ends.{end_bounds}
use Rattle.sheets.proofs.Writing.{all_filled, line_room, with_line_end, without_line_end}
use Rattle.sheets.proofs.fill_lines.Goals as goal
use Rattle.sheets.proofs.fill_lines.Goals.{After-fill_line-written, After-line_end-end}

-- ---- the places of the code: the line's end is found, and the line is put

-- the line's end is within the sheet
bounds : (c : goal.After-line_end-end) → (c.loop-at.at ≤ c.line_end-end.result) × (c.line_end-end.result ≤ length c.args.sheet.now)
bounds c =
    let within = end_bounds c.args.sheet.now c.loop-at.at (omega (arith, c.loop-at-test.true)) in
    (omega (arith, within, c.line_end-end.ensures), omega (arith, within, c.line_end-end.ensures))

-- what is written by then
room : (c : goal.After-fill_line-written) → c.fill_line-written.result ≤ 2 * c.line_end-end.result + 1
room c =
    line_room _ _ _ _ _ c.loop-at.invariant.1 _ c.line_end-end.ensures _ _ c.fill_line-written.ensures (bounds (goal.at.After-fill_line-written c).After-line_end-end).0 (bounds (goal.at.After-fill_line-written c).After-line_end-end).1

pub slice_bounds-fill_line-count : goal.slice_bounds-fill_line-count
slice_bounds-fill_line-count c = (bounds c).0

pub slice_bounds-fill_line-start : goal.slice_bounds-fill_line-start
slice_bounds-fill_line-start c = omega (arith, bounds c)

pub slice_bounds-fill_line-end : goal.slice_bounds-fill_line-end
slice_bounds-fill_line-end c = omega (arith, bounds c)

pub bounds-out-written : goal.bounds-out-written
bounds-out-written c =
    omega (arith, c.requires, room (goal.at.bounds-out-written c).After-fill_line-written, c.if-end-sheet.true, c.fill_line-written.auto.out, c.loop-at.invariant.1.long)

pub overflow_add-written : goal.overflow_add-written
overflow_add-written c =
    omega (arith, c.requires, room (goal.at.overflow_add-written c).After-fill_line-written, c.if-end-sheet.true)

pub loop-at-smaller : goal.loop-at-smaller
loop-at-smaller c =
    omega (arith, bounds (goal.at.loop-at-smaller c).After-line_end-end, c.loop-at-test.true)

pub loop-at-preserved : goal.loop-at-preserved
loop-at-preserved c =
    let so_far = c.loop-at.invariant.1 in
    let within = bounds (goal.at.loop-at-preserved c).After-line_end-end in
    let ended = with_line_end _ _ _ _ _ so_far _ c.line_end-end.ensures _ _ c.fill_line-written.ensures within.0 in
    let open_end = without_line_end _ _ _ _ _ so_far _ c.line_end-end.ensures _ _ c.fill_line-written.ensures within.0 within.1 in
    (omega (arith, within), grind (arith, ended, open_end))

pub returns : goal.returns
returns c = all_filled _ _ _ _ _ c.loop-at.invariant.1 c.loop-at-test.false
