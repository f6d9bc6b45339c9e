-- `fillzero::main` is safe: what it writes is a part of the area, since no sheet is filled to more than there is room for. Assumes nothing.
use Rattle.std.proofs.Common.{◌≤◌, ℕ, length, sym, arith, length-take-le}
use Rattle.std.proofs.lemmas.List.{length-replicate}
use Rattle.sheets.proofs.Writing.{within_area}
use Rattle.fillzero.proofs.main.Goals as goal
use Rattle.fillzero.proofs.main.Goals.{In-Ok-fill}

-- what is filled is within the area
inside : (c : In-Ok-fill) → c.in-Ok-fill.end ≤ length c.fill.new.out
inside c = within_area _ _ _ _ c.in-Ok-fill.ensures (omega (arith, length-replicate {A = ℕ} 131073 0))

pub slice_bounds-out-end : goal.slice_bounds-out-end
slice_bounds-out-end c = inside (goal.at.slice_bounds-out-end c).In-Ok-fill

pub slice_bounds-write_sheet-end : goal.slice_bounds-write_sheet-end
slice_bounds-write_sheet-end c = sym (length-take-le _ _ (inside (goal.at.slice_bounds-write_sheet-end c).In-Ok-fill))
