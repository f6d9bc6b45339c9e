-- `runs::next_recording` meets its contract. The loop's invariant is `Recording`, with the slices as long as they were and one byte to four for
-- each character read, so that the position is behind the start where any is; the measure is what is left of the sentence. `lent` is the sentence
-- again, lent anew. Each turn reads one
-- character (`one_more_read`): the first makes the run's kind, which is any before it (`of_any_kind`), and the others are of this kind. The loop is
-- left where the sentence ends (`ends_with_text`) or a character of the other kind follows (`ends_at_character`), and so the run is the first block
-- (`run_recorded`).
-- Assumes nothing.
use Prim.Native.Nat.{◌≤◌}
use mathlib.Core.Path.{refl, sym, ◌∙◌}
use native.Mathlib.Omega.{arith}
use lib.ListN.{length-set}
use Rattle.utf8.proofs.Positions.{inside, units_within}
use Rattle.runs.specs.Runs.{class_of, text_from}
use Rattle.runs.proofs.Blocks.{EndsBefore}
use Rattle.runs.proofs.Classes.{same_kind}
use Rattle.runs.proofs.Recordings.{nothing_read, of_any_kind, of_same_kind, one_more_read, ends_with_text, ends_at_character}
use Rattle.runs.proofs.Recordings.{place_fits, units_of_place, run_recorded}
use Rattle.runs.proofs.next_recording.Goals as goal
use Rattle.runs.proofs.next_recording.Goals.{else-loop-end-test, then-loop-end-test+then-n-gt0+then-of_class-matched}
use Rattle.runs.proofs.next_recording.Goals.{else-n-gt0-via-then-n-gt0+else-of_class-matched, else-n-gt0-via-else-n-gt0}

pub place-reached-requires : goal.place-reached-requires
place-reached-requires c = (omega (arith, c.requires.at_in_bounds), omega (arith, c.requires.at_in_bounds))

pub loop-end-init : goal.loop-end-init
loop-end-init c = (
  refl,
  refl,
  omega arith,
  omega arith,
  nothing_read _ _ _ _ _ c.args.chars.now c.args.offsets.now c.requires.at_in_bounds.0 c.requires.at_in_bounds.2 c.requires.at_in_bounds_2.0
      c.requires.at_in_bounds_2.1 _ c.place-reached.ensures,
)

-- ---- the places of the code that a turn passes: the function's entry, the loop's head, the character that is read, and its kind

pub next_char-next-requires : goal.next_char-next-requires
next_char-next-requires c = (omega arith, c.loop-end.invariant.4.well_formed)

pub overflow_add-end : goal.overflow_add-end
overflow_add-end c = omega (arith, inside _ _ _ _ _ c.next_char-next.ensures)

pub place-reached-requires-in-loop-end : goal.place-reached-requires-in-loop-end
place-reached-requires-in-loop-end c =
    let char = c.next_char-next.ensures in
    (omega (arith, inside _ _ _ _ _ char), omega (arith, inside _ _ _ _ _ char, units_within _ _ _ _ _ char))

pub overflow_add-reached : goal.overflow_add-reached
overflow_add-reached c =
    let fits = place_fits _ _ _ _ _ _ _ _ _ _ c.loop-end.invariant.4 c.requires.at_in_bounds.3 c.requires.at_in_bounds.1 in
    let is_char = c.next_char-next.ensures in
    omega (arith, fits, c.place-reached-in-loop-end.ensures, inside _ _ _ _ _ is_char, units_within _ _ _ _ _ is_char)

pub loop-end-smaller : goal.loop-end-smaller
loop-end-smaller c = omega (arith, inside _ _ _ _ _ c.next_char-next.ensures)

pub loop-end-preserved : goal.loop-end-preserved
loop-end-preserved c =
    let char = c.next_char-next.ensures in (
      length-set c.loop-end.chars _ _ ∙ c.loop-end.invariant.0,
      length-set c.loop-end.offsets _ _ ∙ c.loop-end.invariant.1,
      omega (arith, c.loop-end.invariant.2, inside _ _ _ _ _ char),
      omega (arith, c.loop-end.invariant.3, inside _ _ _ _ _ char),
      one_more_read _ _ _ _ _ _ _ _ _ _
          (elim c.else-n-gt0.branch [
            | else-n-gt0-via-then-n-gt0+else-of_class-matched more ↦
                of_same_kind _ _ _ _ _ _ _ _ _ _ _ c.loop-end.invariant.4 (same_kind _ _ more.if-of_class-matched.false)
            | else-n-gt0-via-else-n-gt0 first ↦ of_any_kind _ _ _ _ _ _ _ _ _ _ _ c.loop-end.invariant.4 first.if-n-gt0.false
          ])
          _ _ _
          char
          (sym c.classify-of_class.ensures)
          _
          c.place-reached-in-loop-end.ensures,
    )

pub shape_of-chars : goal.shape_of-chars
shape_of-chars c = c.loop-end.invariant.0

pub shape_of-offsets : goal.shape_of-offsets
shape_of-offsets c = length-set c.loop-end.offsets _ _ ∙ c.loop-end.invariant.1

pub returns : goal.returns
returns c =
    let pre = c.requires in
    let ends : EndsBefore (class_of c.args.class) c.loop-end.matched (text_from c.args.s.now c.loop-end.end) =
    elim c.loop-end-test.branch [
      | else-loop-end-test passed ↦ ends_with_text _ _ _ _ _ _ _ _ _ _ c.loop-end.invariant.4 passed.loop-end-test.false
      | then-loop-end-test+then-n-gt0+then-of_class-matched broken ↦
          ends_at_character _ _ _ _ _ _ _ _ _ _ c.loop-end.invariant.4 _ _ _ _ broken.next_char-next.ensures
          broken.classify-of_class.ensures broken.if-of_class-matched.true
    ] in
    let some_read : 1 ≤ c.loop-end.n =
    elim c.loop-end-test.branch [
      | else-loop-end-test passed ↦ omega (arith, passed.loop-end-test.false, pre.at_in_bounds.0, c.loop-end.invariant.3)
      | then-loop-end-test+then-n-gt0+then-of_class-matched broken ↦ broken.if-n-gt0.true
    ] in
    run_recorded _ _ _ _ _ _ _ _ _ _ c.loop-end.invariant.4 ends some_read (omega (arith, some_read, c.loop-end.invariant.2)) _
    (c.utf16_offset.ensures ∙ units_of_place _ _ _ _ _ _ _ _ _ _ c.loop-end.invariant.4 pre.at_in_bounds.3 pre.at_in_bounds.1)
