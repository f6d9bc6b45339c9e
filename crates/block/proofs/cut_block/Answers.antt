-- `block::cut_block` meets its contract: each `return` is a case of `block_by` (`Blocks`). Assumes nothing.
use mathlib.Core.Path.{ap, ◌∙◌}
use native.Mathlib.Omega.{arith}
use borrow.Author.Tests.{not-true, not-false}
use Rattle.std.specs.Prelude.{Err}
use Rattle.block.proofs.Blocks.{outside, stopped_full, stopped_damaged, routed, edges_fit, edges_rise, steps_forward, has_ends}
use Rattle.block.proofs.cut_block.Goals as goal

-- ---- the places of the code in a block of the class: its test, the walk, the edges that the walk told of, and the route

-- ---- what is needed

pub returns-then-not-run : goal.returns-then-not-run
returns-then-not-run c =
    λ b place planned known.
    outside c.args.plan.mode b _ _ _ c.args.chars.now c.args.run.chars _ _
    (not-true _ c.if-not-run.true) (omega (arith, c.requires.work_fits.0.in_chars)) c.requires.room_in_bounds.2
    (c.cut_unmatched.ensures place known)

pub for_each_prefix_at_every_char-requires : goal.for_each_prefix_at_every_char-requires
for_each_prefix_at_every_char-requires c = let pre = c.requires in
    let work = pre.work_fits in record { n_in_bounds = (omega (arith, work.0.in_chars), omega (arith, work.2), work.0.in_starts, work.1); room_in_bounds = (pre.room_in_bounds.0, pre.room_in_bounds.1, pre.slot_table.1) }

pub calc-requires : goal.calc-requires
calc-requires c = let work = c.requires.work_fits in record {
  n_le_longest_text = (
    omega (arith, work.2),
    omega (arith, work.0.in_starts, c.for_each_prefix_at_every_char.auto),
    work.0.in_scores,
    work.0.in_ends,
    work.0.in_records,
  );
  edges_fit = edges_fit _ c.args.logarithms.now c.args.plan.used _ _ _ _ _ _ _ _ c.requires.slot_table.2 c.in-Ok.is
      c.for_each_prefix_at_every_char.ensures;
}

pub cut_route-requires : goal.cut_route-requires
cut_route-requires c = let work = c.requires.work_fits in record {
  n_in_bounds = (
    omega (arith, work.0.in_chars),
    work.0.in_offsets,
    omega (arith, work.0.in_starts, c.for_each_prefix_at_every_char.auto),
    omega (arith, work.0.in_ends, c.calc.auto),
    work.2,
  );
  forward = (
    steps_forward _ _ _ _ _ _ _ _ _ c.calc.ensures
        (edges_fit _ c.args.logarithms.now c.args.plan.used _ _ _ _ _ _ _ _ c.requires.slot_table.2 c.in-Ok.is
        c.for_each_prefix_at_every_char.ensures),
    edges_rise _ c.args.logarithms.now c.args.plan.used _ _ _ _ _ _ _ _ c.requires.slot_table.2 c.in-Ok.is
        c.for_each_prefix_at_every_char.ensures,
  );
}

pub returns-in-Err-Full : goal.returns-in-Err-Full
returns-in-Err-Full c =
    λ b place planned known.
    stopped_full _ b _ _ _ _ _ _ _ _ _ _ (not-false _ c.if-not-run.false)
    (c.for_each_prefix_at_every_char.ensures b planned.seen.same_trie planned.seen.records
    (rw planned.same_logarithms c.requires.slot_table.2)) (c.in-Err-Full.is ∙ ap Err c.in-Err-Full.field-0-is)

pub returns-in-Err-Damaged : goal.returns-in-Err-Damaged
returns-in-Err-Damaged c =
    λ b place planned known.
    stopped_damaged _ b _ _ _ _ _ _ _ _ _ _ (not-false _ c.if-not-run.false)
    (c.for_each_prefix_at_every_char.ensures b planned.seen.same_trie planned.seen.records
    (rw planned.same_logarithms c.requires.slot_table.2)) (c.in-Err-Damaged.is ∙ ap Err c.in-Err-Damaged.field-0-is)

pub returns-in-Ok : goal.returns-in-Ok
returns-in-Ok c =
    λ b place planned known.
    routed c.args.plan.mode b _ _ _ _ _ _ _ _ _ _ (not-false _ c.if-not-run.false)
    (c.for_each_prefix_at_every_char.ensures b planned.seen.same_trie planned.seen.records
    (rw planned.same_logarithms c.requires.slot_table.2)) _ c.in-Ok.is _ _ planned.same_logarithms
    planned.same_total _
    (c.cut_route.ensures place _ _ _ known (has_ends _ _ _ _ _ _ _ _ _ c.calc.ensures))
