-- `sheets::fill_line` meets its contract: a line without a place for a 0 is put as it came; otherwise it is put up to the place, then a space and 0, then from
-- the place on. There is room: what is put before the 0 and what is put after it are as long as the line. Assumes nothing.
use Prim.Native.Nat.{◌≤◌}
use mathlib.Core.Path.{◌≡◌, sym, ◌∙◌}
use native.Mathlib.Omega.{arith}
use lib.ListN.{length, take}
use lib.Seq.{length-take-le}
use Rattle.std.specs.Prelude.{Some}
use Rattle.sheets.specs.Filled.{zero_place}
use Rattle.sheets.proofs.Lines.{place_inside}
use Rattle.sheets.proofs.Writing.{as_it_came, with_zero_lem}
use Rattle.sheets.proofs.fill_line.Goals as goal
use Rattle.sheets.proofs.fill_line.Goals.{In-Some}

-- ---- the places of the code: the 0's place is found, and the line is put up to it

found : (c : goal.In-Some) → Some c.in-Some.end ≡ zero_place c.args.line.now
found c = sym c.in-Some.is ∙ c.zero_place.ensures

inside : (c : goal.In-Some) → c.in-Some.end ≤ length c.args.line.now
inside c = place_inside _ _ (found c)

-- the part before the 0 is as long as it says
front : (c : goal.In-Some) → length (take c.in-Some.end c.args.line.now) ≡ c.in-Some.end
front c = length-take-le _ _ (inside c)

pub returns-in_default : goal.returns-in_default
returns-in_default c =
    as_it_came _ _ _ _ _ (sym c.in_default.is ∙ c.zero_place.ensures) c.put.ensures

pub slice_bounds-put-end : goal.slice_bounds-put-end
slice_bounds-put-end c = sym (front (goal.at.slice_bounds-put-end c).In-Some)

pub slice_bounds-put-count : goal.slice_bounds-put-count
slice_bounds-put-count c = inside (goal.at.slice_bounds-put-count c).In-Some

pub slice_bounds-put-start : goal.slice_bounds-put-start
slice_bounds-put-start c = omega (arith, inside (goal.at.slice_bounds-put-start c).In-Some)

pub returns : goal.returns
returns c =
    with_zero_lem _ _ _ _ _ _ _ _ (found (goal.at.returns c).In-Some) c.put-word.ensures c.put-2.ensures
