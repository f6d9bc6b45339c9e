-- What is written, piece after piece: bytes by `put`, a line by `fill_line`, lines by `fill_lines`, a sheet by `fill`.
-- In each loop what is written, with what is left, makes the whole.
-- Assumes nothing.
use mathlib.Core.Path.{◌≡◌, refl, sym, ap, subst, ◌∙◌}
use mathlib.Core.Bool.{Bool, true, false}
use mathlib.Core.List.{List, [], ◌∷◌, ◌++◌, append_assoc}
use Prim.Native.Nat.{ℕ, suc, ◌+◌, ◌-◌, ◌*◌, ◌≤◌, ◌<◌}
use native.Mathlib.Numerals.{add-one}
use native.Mathlib.Omega.{arith}
use borrow.Author.Tests.{le-leb, lt-leb, leb-true}
use lib.Dec.{leb}
use lib.ListN.{length, set, take, drop, length-set, length-append, length-drop, drop_of_length-le}
use borrow.Rule.Slice.PartMut.{put_mid}
use lib.Seq.{sets, sets-eq, length-sets, length-take-le, take_all, drop-drop}
use Rattle.printing.specs.Answers.{Put}
use Rattle.printing.proofs.Lines.{after}
use Rattle.std.specs.Prelude.{Result, Ok, Err, Some, None}
use Rattle.sheets.specs.declared.TooLong.{TooLong}
use Rattle.sheets.specs.Filled.{zero_place, zero_digit, space_and_zero, with_zero, filled_line, filled, longest_sheet, Filling, filling, fill_of}
use Rattle.lines.specs.Lines.{take_while, line_end}
use Rattle.lines.proofs.Ends.{within, taken}
use Rattle.sheets.proofs.Lines.{line_length}
use Rattle.sheets.proofs.Texts.{none_within, up_to_line_end, up_to_text_end, filled_and, filled_last, nothing_filled, filled_short}

-- ---- `put`

pub put_whole : (bytes before part : List ℕ) (from : ℕ) → from + length bytes ≤ length before → part ≡ bytes
    → Put before from bytes (put_mid from (from + length bytes - from) before part) (from + length bytes)
put_whole bytes before part from room same =
    let count : from + length bytes - from ≡ length bytes = omega arith in
    record { area = rw (same, count, drop-drop (length bytes) from before) (sym (append_assoc (take from before) bytes (drop (from + length bytes) before)) ∙ sym (sets-eq bytes before from room)); ends = refl }

-- ---- `fill_line`

pub part_length : (s : List ℕ) (at end : ℕ) → at ≤ end → end ≤ length s → length (take (end - at) (drop at s)) ≡ end - at
part_length s at end from to =
    let left : length (drop at s) ≡ length s - at = length-drop at s in
    length-take-le (end - at) (drop at s) (omega arith)

module _ (line : List ℕ) where
  pub as_it_came : (out written : List ℕ) (at end : ℕ) → None ≡ zero_place line → Put out at line written end → Put out at (filled_line line) written end
  unfolding filled_line
  as_it_came out written at end place put = subst (λ (bytes : List ℕ). Put out at bytes written end) (ap (with_zero line) place) put

  -- the line up to the word's end, a space, 0, and the rest
  pub with_zero_lem : (out one most : List ℕ) (at place word end : ℕ) → Some place ≡ zero_place line → Put out at (take place line) one word
      → Put (set (set one word 0x20) (word + 1) zero_digit) (word + 2) (take (length line - place) (drop place line)) most end
      → Put out at (filled_line line) most end
  unfolding filled_line
  with_zero_lem out one most at place word end where_to first second =
      subst (λ (bytes : List ℕ). Put out at bytes most end) (ap (with_zero line) where_to) (record {
        area =
            second.area
            ∙ rw (next, next_but_one) (ap (sets one word) (ap (λ (rest : List ℕ). space_and_zero ++ rest) to_the_end))
            ∙ after out (take place line) one (space_and_zero ++ drop place line) at word first.area first.ends;
        ends = omega (arith, first.ends, second.ends, ap length to_the_end, length-append (take place line) (space_and_zero ++ drop place line));
      })
    where
      to_the_end : take (length line - place) (drop place line) ≡ drop place line
      to_the_end = take_all (length line - place) (drop place line) (omega (arith, length-drop place line))

      next : word + 1 ≡ suc word
      next = omega arith

      next_but_one : word + 2 ≡ suc (suc word)
      next_but_one = omega arith

-- ---- `fill_lines`

-- the line at a position, and what stands after it
module _ (s : List ℕ) (at end : ℕ) (ends : end ≡ line_end s at) where
  count : ℕ
  count = length (take_while within (drop at s))

  end_is : end ≡ at + count
  unfolding count line_end
  end_is = ends

  line_is : take (end - at) (drop at s) ≡ take_while within (drop at s)
  unfolding count
  line_is = let as_many : end - at ≡ length (take_while within (drop at s)) = omega (arith, end_is) in
      ap (λ (n : ℕ). take n (drop at s)) as_many ∙ taken within (drop at s)

  pub next_line : end < length s → filled (drop at s) ≡ filled_line (take (end - at) (drop at s)) ++ (0x0A ∷ filled (drop (end + 1) s))
  unfolding count
  next_line more =
      let next : at + suc count ≡ end + 1 = omega (arith, end_is) in
      let after_it : drop (suc count) (drop at s) ≡ drop (end + 1) s = drop-drop (suc count) at s ∙ ap (λ (n : ℕ). drop n s) next in
      ap filled (up_to_line_end (drop at s) (omega (arith, end_is, length-drop at s)))
      ∙ filled_and (take_while within (drop at s)) (drop (suc count) (drop at s)) (none_within (drop at s))
      ∙ rw (line_is, after_it)

  pub last_line : length s ≤ end → filled (drop at s) ≡ filled_line (take (end - at) (drop at s))
  unfolding count
  last_line no_more =
      ap filled (up_to_text_end (drop at s) (omega (arith, end_is, length-drop at s)))
      ∙ filled_last (take_while within (drop at s)) (none_within (drop at s))
      ∙ ap filled_line (sym line_is)

nothing_left : filled [] ≡ []
nothing_left = filled_last [] tt ∙ nothing_filled

-- what is written is at most twice as long as what it came from
pub record FillingLines (s before out : List ℕ) (at written : ℕ) : Type 0 where
  pub whole : sets out written (filled (drop at s)) ≡ sets before 0 (filled s)
  pub ends : written + length (filled (drop at s)) ≡ length (filled s)
  pub room : written ≤ 2 * at
  pub long : length out ≡ length before

pub filling_lines : (s out : List ℕ) → FillingLines s out out 0 0
filling_lines s out = record { whole = refl; ends = omega arith; room = omega arith; long = refl }

module _ (s before out : List ℕ) (at written : ℕ) (so_far : FillingLines s before out at written) where
  pub all_filled : length s ≤ at → Put before 0 (filled s) out written
  all_filled end =
      let none_left : filled (drop at s) ≡ [] = ap filled (drop_of_length-le s end) ∙ nothing_left in
      record {
        area = ap (sets out written) (sym none_left) ∙ so_far.whole;
        ends = omega (arith, so_far.ends, ap length none_left);
      }

  module _ (end : ℕ) (ends : end ≡ line_end s at) (after_Line : List ℕ) (line_end_lem : ℕ)
      (put : Put out written (filled_line (take (end - at) (drop at s))) after_Line line_end_lem) where
    line : List ℕ
    line = take (end - at) (drop at s)

    line_kept : length after_Line ≡ length before
    line_kept = ap length put.area ∙ length-sets out written (filled_line (take (end - at) (drop at s))) ∙ so_far.long

    -- how far the area is written with the line
    pub line_room : at ≤ end → end ≤ length s → line_end_lem ≤ 2 * end + 1
    line_room from to =
        omega (arith, so_far.room, put.ends, line_length (take (end - at) (drop at s)), part_length s at end from to)

    pub with_line_end : at ≤ end → end < length s → FillingLines s before (set after_Line line_end_lem 0x0A) (end + 1) (line_end_lem + 1)
    unfolding line
    with_line_end from more =
        let rest = filled (drop (end + 1) s) in
        let parts : filled (drop at s) ≡ filled_line line ++ (0x0A ∷ rest) = next_line s at end ends more in
        record {
          whole =
              rw (add-one line_end_lem) (after out (filled_line line) after_Line (0x0A ∷ rest) written line_end_lem put.area put.ends)
              ∙ ap (sets out written) (sym parts)
              ∙ so_far.whole;
          ends = omega (arith, so_far.ends, put.ends, ap length parts, length-append (filled_line line) (0x0A ∷ rest));
          room = omega (arith, line_room from (omega arith));
          long = length-set after_Line line_end_lem 0x0A ∙ line_kept;
        }

    pub without_line_end : at ≤ end → end ≤ length s → length s ≤ end → FillingLines s before after_Line (end + 1) line_end_lem
    unfolding line
    without_line_end from to no_more =
        let beyond : length s ≤ end + 1 = omega arith in
        let none_left : filled (drop (end + 1) s) ≡ [] = ap filled (drop_of_length-le s beyond) ∙ nothing_left in
        let one : filled (drop at s) ≡ filled_line line = last_line s at end ends no_more in
        record {
          whole = ap (sets after_Line line_end_lem) none_left ∙ put.area ∙ ap (sets out written) (sym one) ∙ so_far.whole;
          ends = omega (arith, so_far.ends, put.ends, ap length one, ap length none_left);
          room = omega (arith, line_room from to);
          long = line_kept;
        }

-- ---- `fill`

pub too_long : (sheet area : List ℕ) → longest_sheet < length sheet → filling (Err (record {})) area ≡ fill_of sheet area
unfolding fill_of
too_long sheet area longer = rw (lt-leb (length sheet) longest_sheet longer)

pub not_too_long : (sheet area after_all : List ℕ) (end : ℕ) → length sheet ≤ longest_sheet → Put area 0 (filled sheet) after_all end
    → filling (Ok end) after_all ≡ fill_of sheet area
unfolding fill_of
not_too_long sheet area after_all end within_limit put =
    let count : end ≡ length (filled sheet) = omega (arith, put.ends) in
    rw (le-leb (length sheet) longest_sheet within_limit, count, put.area)

-- what is filled is within the area
pub within_area : (sheet area after_all : List ℕ) (end : ℕ) → filling (Ok end) after_all ≡ fill_of sheet area → 131073 ≤ length area → end ≤ length after_all
unfolding fill_of
within_area sheet area after_all end e long = go (leb (length sheet) longest_sheet) refl
  where
    go : (t : Bool) → leb (length sheet) longest_sheet ≡ t → end ≤ length after_all
    go true within_limit =
        let same : filling (Ok end) after_all ≡ filling (Ok (length (filled sheet))) (sets area 0 (filled sheet)) = rw within_limit at e in
        let told : Ok end ≡ Ok (length (filled sheet)) = ap (λ (f : Filling). f.sheet) same in
        let count : end ≡ length (filled sheet) = cc in
        let kept : length after_all ≡ length area = ap (λ (f : Filling). length f.area) same ∙ length-sets area 0 (filled sheet) in
        omega (arith, leb-true (length sheet) longest_sheet within_limit, filled_short sheet)
    go false longer =
        let same : filling (Ok end) after_all ≡ filling (Err (record {})) area = rw longer at e in
        let other : ◌≡◌ {A = Result ℕ TooLong} (Ok end) (Err (record {})) = ap (λ (f : Filling). f.sheet) same in
        let z : ◌≡◌ {A = ℕ} 0 1 = cc in absurd (omega arith)
