-- `load_lines::load_lines` meets its contract. The loop's invariant: the areas are as long as they were (`SameLong`), and what the lines from the position
-- on come to is what the whole text comes to (`Loading`). The measure is what is left of the text, and one for the line's end. Assumes nothing.
use Rattle.std.specs.Prelude.{Ok, Err}
use Rattle.std.proofs.Common.{rules}
use Prim.Native.Nat.{◌+◌, ◌-◌, ◌≤◌}
use mathlib.Core.Path.{◌≡◌, ◌∙◌}
use native.Mathlib.Omega.{arith}
use lib.ListN.{length}
use Rattle.book.specs.declared.Refusal.{Refusal}
use Rattle.load_lines.proofs.Loads.{as_long, still_sized, begins, line_inside, line_short, stops, goes_on, ends}
use Rattle.load_lines.proofs.load_lines.Goals as goal
use Rattle.load_lines.proofs.load_lines.Goals.{After-from_residual, After-line_end-end, In_ok-map_err}

pub loop-at-init : goal.loop-at-init
loop-at-init c = (as_long _ _ _ _, begins _ _)

-- ---- the places of the code: the book and the text are lent, the table is there, and a turn finds a line's end, enters the line and tests the answer

-- the line is a part of the text
module _ (c : goal.After-line_end-end) where
  inside : (c.loop-at.at ≤ c.line_end-end.result) × (c.line_end-end.result ≤ length c.args.text.now)
  inside = line_inside c.loop-at.invariant.1 c.loop-at-test.true c.line_end-end.ensures

pub overflow_add-line : goal.overflow_add-line
overflow_add-line c = omega arith

pub slice_bounds-load_line-count : goal.slice_bounds-load_line-count
slice_bounds-load_line-count c = (inside (goal.at.slice_bounds-load_line-count c).After-line_end-end).0

pub slice_bounds-load_line-start : goal.slice_bounds-load_line-start
slice_bounds-load_line-start c = omega (arith, inside (goal.at.slice_bounds-load_line-start c).After-line_end-end)

pub slice_bounds-load_line-end : goal.slice_bounds-load_line-end
slice_bounds-load_line-end c = omega (arith, inside (goal.at.slice_bounds-load_line-end c).After-line_end-end)

pub load_line-requires : goal.load_line-requires
load_line-requires c = let long = c.loop-at.invariant.0 in
    let pre = c.requires in record {
      logarithms_value = still_sized long pre.logarithms_value;
      shift_value = (
        rw long.same_slots pre.shift_value.0,
        line_short c.loop-at.invariant.1 c.loop-at-test.true c.line_end-end.ensures pre.shift_value.1,
        c.table-table.ensures,
      );
    }

-- a line that entered, and one that was refused
entered : (c : goal.In_ok-map_err) → c.load_line.result ≡ Ok tt
entered c = search rules

refused : (c : goal.After-from_residual) → (r : Refusal) × (c.load_line.result ≡ Err r) × (c.from_residual.result ≡ Err (record { refusal = r; line = c.loop-at.line + 1 }))
refused c = search rules

pub returns-in_err-map_err : goal.returns-in_err-map_err
returns-in_err-map_err c =
    let (r, e, answers) = refused c in
    rw answers (stops c.loop-at.invariant.1 c.loop-at-test.true c.line_end-end.ensures c.load_line.ensures e)

pub overflow_add-at : goal.overflow_add-at
overflow_add-at c =
    omega (arith, c.requires.shift_value.1, inside (goal.at.overflow_add-at c).After-line_end-end)

pub loop-at-smaller : goal.loop-at-smaller
loop-at-smaller c = omega (arith, inside (goal.at.loop-at-smaller c).After-line_end-end)

pub loop-at-preserved : goal.loop-at-preserved
loop-at-preserved c =
    let long = c.loop-at.invariant.0 in
    let kept = c.load_line.auto in (
      record {
        same_roots = kept.roots ∙ long.same_roots;
        same_slots = kept.slots ∙ long.same_slots;
        same_records = kept.records ∙ long.same_records;
        same_logarithms = kept.logarithms ∙ long.same_logarithms;
      },
      goes_on c.loop-at.invariant.1 c.loop-at-test.true c.line_end-end.ensures c.load_line.ensures (entered c),
    )

pub returns : goal.returns
returns c = ends c.loop-at.invariant.1 c.loop-at-test.false
