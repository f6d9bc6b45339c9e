-- `cut_all_blocks::cut_all_blocks` meets its contract. The loop's invariant is `Cutting`, with the slices as long as they were, and the measure is the number of bytes
-- left. A turn and each return is a law of `splitter`'s `Cutting`, over what `next_recording` ensures, and then `cut_all_tokens` or `cut_all_unmatched`
-- (`Blocks`); where the loop stands is what the splitter's `start`, `has_next` and `advance` answer.
-- Assumes nothing.
use Rattle.std.specs.Prelude.{Err}
use Rattle.std.proofs.Common.{rules}
use Prim.Native.Nat.{◌≤◌, ◌<◌}
use mathlib.Core.Path.{◌≡◌, refl, sym, ◌∙◌}
use native.Mathlib.Omega.{arith}
use lib.ListN.{length, take}
use borrow.Author.Tests.{ltb-true, ltb-false}
use Rattle.splitter.proofs.Cutting.{run_within, run_in_text, ends_here, ends_stopped, goes_behind}
use Rattle.cut_all_blocks.proofs.Blocks.{begins, BlockCut, as_answered, matched_cut, unmatched_cut}
use Rattle.cut_all_blocks.proofs.cut_all_blocks.Goals as goal
use Rattle.cut_all_blocks.proofs.cut_all_blocks.Goals.{After-from_residual, After-loop-chars, In-loop-chars, Joined-run, then-run, else-run}

-- the block that is cut, of the class or not
block : (c : goal.Joined-run)
    → let args = c.args in
    let r = c.next_recording-run.result in
    BlockCut args.roots.now args.slots.now args.used
    c.loop-chars.base r.matched (take r.chars c.next_recording-run.new.chars) c.next_recording-run.new.offsets
    c.loop-chars.tokens c.loop-chars.count c.if-run.cut c.if-run.tokens
block c =
    elim c.if-run.branch [
      | then-run w ↦
          as_answered w.tokens-is w.cut-is (matched_cut w.if-run.true w.cut_all_tokens-cut.auto.tokens w.cut_all_tokens-cut.ensures)
      | else-run w ↦
          as_answered w.tokens-is w.cut-is (unmatched_cut w.if-run.false w.cut_all_unmatched-cut.auto.tokens w.cut_all_unmatched-cut.ensures)
    ]

-- where the splitter has no run left the sentence ends, and where it has one it goes on
behind_end : (c : goal.After-loop-chars) → length c.args.sentence.now ≤ c.loop-chars.at
behind_end c = ltb-false _ _ (sym c.has_next.ensures ∙ c.loop-chars-test.false)

before_end : (c : goal.In-loop-chars) → c.loop-chars.at < length c.args.sentence.now
before_end c = ltb-true _ _ (sym c.has_next.ensures ∙ c.loop-chars-test.true)

pub loop-chars-init : goal.loop-chars-init
loop-chars-init c = (
  record { long_chars = refl; long_offsets = refl; long_tokens = refl },
  begins _ _ _ _ _ _ c.requires.sentence_len_bound.0 c.requires.sentence_len_bound.1 c.start-at.ensures,
)

pub next_recording-run-requires : goal.next_recording-run-requires
next_recording-run-requires c = let room = c.requires.sentence_in_bounds in
    let l = c.loop-chars.invariant in record { at_in_bounds = (before_end (goal.at.next_recording-run-requires c).In-loop-chars, c.requires.sentence_len_bound.0, l.1.well_formed, l.1.few_units); at_in_bounds_2 = (omega (arith, l.0, l.1.counted, room), omega (arith, l.0, l.1.counted, room)) }

pub cut_all_tokens-cut-requires : goal.cut_all_tokens-cut-requires
cut_all_tokens-cut-requires c = let recorded = c.next_recording-run.ensures in record {
  n_in_bounds = (
    omega (arith, recorded.fits),
    omega (arith, run_within c.loop-chars.invariant.1 recorded, c.loop-chars.invariant.0, c.requires.sentence_in_bounds, c.next_recording-run.auto),
    recorded.characters,
    run_in_text c.loop-chars.invariant.1 recorded,
  );
}

pub cut_all_unmatched-cut-requires : goal.cut_all_unmatched-cut-requires
cut_all_unmatched-cut-requires c =
    let recorded = c.next_recording-run.ensures in (
      omega (arith, recorded.fits),
      omega (arith, run_within c.loop-chars.invariant.1 recorded, c.loop-chars.invariant.0, c.requires.sentence_in_bounds, c.next_recording-run.auto),
      run_in_text c.loop-chars.invariant.1 recorded,
    )

refused_as : (c : goal.After-from_residual) → c.from_residual.result ≡ Err c.in_err-count.field-0.0
refused_as c = search rules

pub returns-in_err-count : goal.returns-in_err-count
returns-in_err-count c =
    rw (refused_as c)
    (ends_stopped c.loop-chars.invariant.1 c.next_recording-run.ensures c.if-run.cut _ (block (goal.at.returns-in_err-count c).Joined-run).same
    c.in_err-count.was)

pub overflow_cast-base : goal.overflow_cast-base
overflow_cast-base c =
    omega (arith, run_in_text c.loop-chars.invariant.1 c.next_recording-run.ensures)

pub overflow_add-base : goal.overflow_add-base
overflow_add-base c =
    omega (arith, run_in_text c.loop-chars.invariant.1 c.next_recording-run.ensures)

pub loop-chars-smaller : goal.loop-chars-smaller
loop-chars-smaller c =
    omega (arith, c.advance-at.ensures, c.next_recording-run.ensures.forward, before_end (goal.at.loop-chars-smaller c).In-loop-chars)

pub loop-chars-preserved : goal.loop-chars-preserved
loop-chars-preserved c =
    let l = c.loop-chars.invariant in (
      record {
        long_chars = c.next_recording-run.auto.chars ∙ l.0.long_chars;
        long_offsets = c.next_recording-run.auto.offsets ∙ l.0.long_offsets;
        long_tokens = (block (goal.at.loop-chars-preserved c).Joined-run).kept ∙ l.0.long_tokens;
      },
      goes_behind l.1 c.next_recording-run.ensures c.if-run.cut _ (block (goal.at.loop-chars-preserved c).Joined-run).same
          c.in_ok-count.was c.advance-at.ensures,
    )

pub returns : goal.returns
returns c =
    ends_here c.loop-chars.invariant.1 (behind_end c)
