-- `blocks::cut_blocks` meets its contract. The loop's invariant is `Cutting`, with the areas as long as they were, and the measure is the number of bytes
-- left. A
-- turn and each return is a law of `splitter`'s `Cutting`, over what `next_recording` and `cut_block` ensure; where the loop stands is what the
-- splitter's `start`, `has_next` and
-- `advance` answer.
-- Assumes nothing.
use Rattle.std.specs.Prelude.{Err}
use Rattle.std.proofs.Common.{rules}
use mathlib.Core.Path.{◌≡◌, refl, sym, ◌∙◌}
use Prim.Native.Nat.{◌-◌, ◌≤◌, ◌<◌}
use native.Mathlib.Omega.{arith}
use lib.ListN.{length}
use borrow.Author.Tests.{ltb-true, ltb-false}
use Rattle.splitter.proofs.Cutting.{run_within, run_in_text, ends_here, ends_stopped, goes_behind}
use Rattle.blocks.proofs.Sentences.{begins, of_kind}
use Rattle.blocks.proofs.cut_blocks.Goals as goal
use Rattle.blocks.proofs.cut_blocks.Goals.{After-from_residual, After-loop-plan, In-loop-plan}

pub loop-plan-init : goal.loop-plan-init
loop-plan-init c = (
  record {
    long_chars = refl;
    long_offsets = refl;
    long_starts = refl;
    long_scores = refl;
    long_ends = refl;
    long_records = refl;
    long_edge_ends = refl;
    long_edge_records = refl;
    long_tokens = refl;
  },
  begins _ _ _ _ _ _ _ c.requires.sentence_len_bound.0 c.requires.sentence_len_bound.1 c.start-at.ensures,
)

-- ---- the places of the code that a turn passes: the loop's test, the run, and its cut

-- where the splitter has no run left the sentence ends, and where it has one it goes on
behind_end : (c : goal.After-loop-plan) → length c.args.sentence.now ≤ c.loop-plan.at
behind_end c = ltb-false _ _ (sym c.has_next.ensures ∙ c.loop-plan-test.false)

before_end : (c : goal.In-loop-plan) → c.loop-plan.at < length c.args.sentence.now
before_end c = ltb-true _ _ (sym c.has_next.ensures ∙ c.loop-plan-test.true)

pub next_recording-run-requires : goal.next_recording-run-requires
next_recording-run-requires c = let work = c.requires.work_fits in
    let l = c.loop-plan.invariant in record { at_in_bounds = (before_end (goal.at.next_recording-run-requires c).In-loop-plan, c.requires.sentence_len_bound.0, l.1.well_formed, l.1.few_units); at_in_bounds_2 = (omega (arith, l.0, l.1.counted, work), omega (arith, l.0, l.1.counted, work)) }

pub cut_block-requires : goal.cut_block-requires
cut_block-requires c = let pre = c.requires in
    let work = pre.work_fits in
    let long = c.loop-plan.invariant.0 in
    let within = run_within c.loop-plan.invariant.1 c.next_recording-run.ensures in record {
      slot_table = pre.slot_table;
      work_fits = (
        record {
          in_chars = omega (arith, within, work, long, c.next_recording-run.auto);
          in_offsets = omega (arith, within, work, long, c.next_recording-run.auto);
          in_starts = omega (arith, within, work, long);
          in_scores = omega (arith, within, work, long);
          in_ends = omega (arith, within, work, long);
          in_records = omega (arith, within, work, long);
        },
        c.next_recording-run.ensures.characters,
        run_in_text c.loop-plan.invariant.1 c.next_recording-run.ensures,
      );
      room_in_bounds = (omega (arith, long, pre.room_in_bounds), omega (arith, long, pre.room_in_bounds), of_kind c.next_recording-run.ensures);
    }

refused_as : (c : goal.After-from_residual) → c.from_residual.result ≡ Err c.in_err-count.field-0.0
refused_as c = search rules

pub returns-in_err-count : goal.returns-in_err-count
returns-in_err-count c =
    rw (refused_as c)
    (ends_stopped c.loop-plan.invariant.1 c.next_recording-run.ensures c.cut_block.result _ c.cut_block.ensures
    c.in_err-count.was)

pub overflow_cast-base : goal.overflow_cast-base
overflow_cast-base c =
    omega (arith, run_in_text c.loop-plan.invariant.1 c.next_recording-run.ensures)

pub overflow_add-base : goal.overflow_add-base
overflow_add-base c =
    omega (arith, run_in_text c.loop-plan.invariant.1 c.next_recording-run.ensures)

pub loop-plan-smaller : goal.loop-plan-smaller
loop-plan-smaller c =
    let run = c.next_recording-run.ensures in
    omega (arith, c.advance-at.ensures, run.forward, run.inside)

pub loop-plan-preserved : goal.loop-plan-preserved
loop-plan-preserved c =
    let l = c.loop-plan.invariant in
    let run = c.next_recording-run.auto in
    let areas = c.cut_block.auto in (
      record {
        long_chars = run.chars ∙ l.0.long_chars;
        long_offsets = run.offsets ∙ l.0.long_offsets;
        long_starts = areas.starts ∙ l.0.long_starts;
        long_scores = areas.scores ∙ l.0.long_scores;
        long_ends = areas.ends ∙ l.0.long_ends;
        long_records = areas.records ∙ l.0.long_records;
        long_edge_ends = areas.edge_ends ∙ l.0.long_edge_ends;
        long_edge_records = areas.edge_records ∙ l.0.long_edge_records;
        long_tokens = areas.tokens ∙ l.0.long_tokens;
      },
      goes_behind l.1 c.next_recording-run.ensures c.cut_block.result _ c.cut_block.ensures
          c.in_ok-count.was c.advance-at.ensures,
    )

pub returns : goal.returns
returns c = ends_here c.loop-plan.invariant.1 (behind_end c)
