-- `sheets::fill` meets its contract: the area has places for the longest sheet filled. Assumes nothing.
use native.Mathlib.Omega.{arith}
use Rattle.sheets.proofs.Writing.{too_long, not_too_long}
use Rattle.sheets.proofs.fill.Goals as goal

pub returns-then-sheet-gt-LONGEST_SHEET : goal.returns-then-sheet-gt-LONGEST_SHEET
returns-then-sheet-gt-LONGEST_SHEET c = too_long c.args.sheet.now _ (omega (arith, c.if-sheet-gt-LONGEST_SHEET.true))

pub returns : goal.returns
returns c = not_too_long c.args.sheet.now _ _ _ (omega (arith, c.if-sheet-gt-LONGEST_SHEET.false)) c.fill_lines.ensures
