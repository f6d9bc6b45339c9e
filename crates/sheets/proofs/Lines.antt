-- A filled line. A line either has a word with no second field, and goes out with a space and 0 after it, or it goes out as it came. What is said of a
-- filled line is said of these two kinds: what it means, that it is not filled again, and how long it is.
-- Assumes nothing.
use mathlib.Core.Path.{◌≡◌, refl, sym, ap, ◌∙◌}
use mathlib.Core.List.{List, [], ◌∷◌, ◌++◌, append_assoc}
use mathlib.Core.Option.{Option, none, some}
use Prim.Native.Nat.{ℕ, ◌+◌, ◌*◌, ◌≤◌}
use native.Mathlib.Nat.{zero-add}
use native.Mathlib.Omega.{arith}
use lib.ListN.{length, take, drop, length-append, take-append-drop}
use Rattle.classes.specs.WhiteSpace.{white_space}
use Rattle.utf8.specs.Characters.{read_from}
use Rattle.utf8.specs.Encoding.{byte_length}
use Rattle.utf8.specs.Text.{chars_of, chars_within, chars_from}
use Rattle.utf8.proofs.Positions.{from_start, first_bytes, from_second, byte_length_append, within_text, chars_append}
use Rattle.lines.specs.Lines.{take_while, pieces, fields_of, number, frequency_of, meaning_of}
use Rattle.std.specs.Prelude.{Some, None}
use Rattle.sheets.specs.Filled.{zero_place, zero_digit, space_and_zero, with_zero, filled_line}
use Rattle.sheets.specs.OldRule.{old_meaning_of}
use Rattle.sheets.specs.Claims.{HasSecondField}
use Rattle.sheets.proofs.Fields.{OnlyField, only_field}

-- a line without a place for a 0 goes out as it came
unchanged : (line : List ℕ) → zero_place line ≡ None → filled_line line ≡ line
unfolding filled_line
unchanged line e = ap (with_zero line) e

-- a line without bytes has no word
no_chars : chars_of [] ≡ some []
unfolding chars_of chars_within
no_chars = refl

no_fields : fields_of [] ≡ []
unfolding fields_of pieces
no_fields = refl

-- ---- a line with a word and no second field

module _ (line cs word : List ℕ) (e : chars_of line ≡ some cs) (only : fields_of cs ≡ word ∷ []) where
  parts : OnlyField cs word
  parts = only_field cs word only

  -- the white space before the word
  first : List ℕ
  first = take_while white_space cs

  bare_end_lem : ℕ
  bare_end_lem = byte_length first + byte_length word

  bare_place : zero_place line ≡ Some bare_end_lem
  unfolding zero_place bare_end_lem first
  bare_place = rw (e, only, zero-add (byte_length (take_while white_space cs)))

  whole : chars_from line 0 ≡ some ((first ++ word) ++ parts.rest)
  unfolding first
  whole = from_start line ∙ e ∙ ap some (parts.whole ∙ sym (append_assoc first word parts.rest))

  end_is : byte_length (first ++ word) ≡ bare_end_lem
  unfolding bare_end_lem
  end_is = byte_length_append first word

  up_to_end : chars_of (take bare_end_lem line) ≡ some (first ++ word)
  up_to_end = ap (λ (n : ℕ). chars_of (take n line)) (sym end_is) ∙ first_bytes line 0 (first ++ word) parts.rest whole

  from_end : chars_of (drop bare_end_lem line) ≡ some parts.rest
  unfolding chars_from
  from_end =
      ap (λ (n : ℕ). chars_of (drop n line)) (sym (zero-add (byte_length (first ++ word)) ∙ end_is)) ∙ from_second line 0 (first ++ word) parts.rest whole

  bare_inside : bare_end_lem ≤ length line
  bare_inside = omega (arith, end_is, within_text line 0 (first ++ word) parts.rest whole (omega arith))

  zero_chars : chars_of space_and_zero ≡ some space_and_zero
  unfolding chars_of chars_within read_from
  zero_chars = refl

  filled_is : filled_line line ≡ take bare_end_lem line ++ (space_and_zero ++ drop bare_end_lem line)
  unfolding filled_line
  filled_is = ap (with_zero line) bare_place

  filled_chars : chars_of (filled_line line) ≡ some (first ++ (word ++ (space_and_zero ++ parts.rest)))
  filled_chars =
      ap chars_of filled_is
      ∙ chars_append (take bare_end_lem line) (space_and_zero ++ drop bare_end_lem line) (first ++ word) (space_and_zero ++ parts.rest) up_to_end
      (chars_append space_and_zero (drop bare_end_lem line) space_and_zero parts.rest zero_chars from_end)
      ∙ ap some (append_assoc first word (space_and_zero ++ parts.rest))

  filled_fields : fields_of (first ++ (word ++ (space_and_zero ++ parts.rest))) ≡ word ∷ (zero_digit ∷ []) ∷ []
  unfolding first
  filled_fields = parts.filled

  -- it is loaded with the frequency 0, which its word had by the old rule
  bare_meaning : meaning_of (filled_line line) ≡ old_meaning_of line
  unfolding meaning_of old_meaning_of frequency_of number
  bare_meaning = rw (filled_chars, filled_fields, e, only)

  bare_twice : filled_line (filled_line line) ≡ filled_line line
  unfolding zero_place
  bare_twice = unchanged (filled_line line) (rw (filled_chars, filled_fields))

  bare_length : length (filled_line line) ≡ length line + 2
  bare_length =
      ap length filled_is
      ∙ length-append (take bare_end_lem line) (space_and_zero ++ drop bare_end_lem line)
      ∙ (let parted : length (take bare_end_lem line) + length (drop bare_end_lem line) ≡ length line = sym (length-append (take bare_end_lem line) (drop bare_end_lem line))
      ∙ ap length (take-append-drop bare_end_lem line) in omega arith)

  bare_longer : 1 ≤ length line
  bare_longer = go line refl
    where
      go : (bytes : List ℕ) → line ≡ bytes → 1 ≤ length bytes
      go [] q =
          let nothing : cs ≡ [] = cc (e, ap chars_of q, no_chars) in
          let z : ◌≡◌ {A = ℕ} 0 1 = cc (only, ap fields_of nothing, no_fields) in absurd (omega arith)
      go (b ∷ bytes) q = omega arith

-- ---- the two kinds of lines

pub data Kind (line : List ℕ) : Type 0 where
  bare : (cs word : List ℕ) → chars_of line ≡ some cs → fields_of cs ≡ word ∷ [] → Kind line
  kept : zero_place line ≡ None → meaning_of line ≡ old_meaning_of line → Kind line

pub kind_of_lem : (line : List ℕ) → Kind line
unfolding zero_place meaning_of old_meaning_of
kind_of_lem line = by_chars (chars_of line) refl
  where
    by_fields : (cs : List ℕ) → chars_of line ≡ some cs → (fs : List (List ℕ)) → fields_of cs ≡ fs → Kind line
    by_fields cs e [] f = kept (rw (e, f)) (rw (e, f))
    by_fields cs e (word ∷ []) f = bare cs word e f
    by_fields cs e (word ∷ second ∷ others) f = kept (rw (e, f)) (rw (e, f))

    by_chars : (o : Option (List ℕ)) → chars_of line ≡ o → Kind line
    by_chars none e = kept (rw e) (rw e)
    by_chars (some cs) e = by_fields cs e (fields_of cs) refl

pub meaning_filled : (line : List ℕ) → meaning_of (filled_line line) ≡ old_meaning_of line
meaning_filled line =
    elim (kind_of_lem line) [
      | bare cs word e f ↦ bare_meaning line cs word e f
      | kept e same ↦ ap meaning_of (unchanged line e) ∙ same
    ]

pub line_twice : (line : List ℕ) → filled_line (filled_line line) ≡ filled_line line
line_twice line =
    elim (kind_of_lem line) [
      | bare cs word e f ↦ bare_twice line cs word e f
      | kept e same ↦ ap filled_line (unchanged line e)
    ]

pub line_kept : (line : List ℕ) → HasSecondField line → filled_line line ≡ line
line_kept line has =
    elim (kind_of_lem line) [
      | bare cs word e f ↦ absurd (has cs word e f)
      | kept e same ↦ unchanged line e
    ]

pub line_length : (line : List ℕ) → (length line ≤ length (filled_line line)) × (length (filled_line line) ≤ 2 * length line + 1)
line_length line =
    elim (kind_of_lem line) [
      | bare cs word e f ↦ let long = bare_length line cs word e f in let some_bytes = bare_longer line cs word e f in (omega arith, omega arith)
      | kept e same ↦ let long : length (filled_line line) ≡ length line = ap length (unchanged line e) in (omega arith, omega arith)
    ]

pub place_inside : (line : List ℕ) (end : ℕ) → Some end ≡ zero_place line → end ≤ length line
place_inside line end at_end =
    elim (kind_of_lem line) [
      | bare cs word e f ↦ let place = bare_place line cs word e f in let same : end ≡ bare_end_lem line cs word e f = cc in omega (arith, bare_inside line cs word e f)
      | kept e same ↦ let z : ◌≡◌ {A = ℕ} 0 1 = cc in absurd (omega arith)
    ]
