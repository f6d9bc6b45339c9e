-- A sheet, line by line. A sheet is a line without an LF, or such a line, an LF and a sheet again (`ByLines`); by these two cases it is said what its lines
-- are and what it is filled to, and the laws on whole sheets follow from those on lines.
-- Assumes nothing.
use mathlib.Core.Path.{◌≡◌, refl, sym, ap, subst, ◌∙◌}
use mathlib.Core.Bool.{Bool, true, false}
use mathlib.Core.List.{List, [], ◌∷◌, ◌++◌, map, append-nil}
use Prim.Native.Nat.{ℕ, zero, suc, ◌+◌, ◌*◌, ◌≤◌, ◌<◌}
use native.Mathlib.Omega.{arith}
use borrow.Author.Tests.{eqb-true}
use lib.Dec.{eqb}
use lib.ListN.{length, take, drop, length-append}
use lib.Seq.{append_snoc}
use Rattle.utf8.specs.Text.{chars_of, chars_within}
use Rattle.lines.specs.Lines.{onto, lines_of, take_while, pieces, fields_of}
use Rattle.lines.proofs.Ends.{within, line_ends, line_goes_on}
use Rattle.std.specs.Prelude.{Option as CodeOption, Some, None}
use Rattle.sheets.specs.Filled.{zero_place, space_and_zero, with_zero, filled_line, filled_from, filled}
use Rattle.sheets.specs.Claims.{FilledLineByLine, EachHasSecondField, FilledTwice, SecondFieldsKept, FilledShort}
use Rattle.sheets.proofs.Lines.{line_twice, line_kept, line_length}

-- ---- lines without an LF

abbrev pub NoLineEnd : List ℕ → Type 0
NoLineEnd [] = Unit {0}
NoLineEnd (b ∷ bytes) = (eqb b 0x0A ≡ false) × NoLineEnd bytes

none_appended : (xs ys : List ℕ) → NoLineEnd xs → NoLineEnd ys → NoLineEnd (xs ++ ys)
none_appended [] ys first second = second
none_appended (x ∷ xs) ys first second = (first.0, none_appended xs ys first.1 second)

none_taken : (n : ℕ) (xs : List ℕ) → NoLineEnd xs → NoLineEnd (take n xs) × NoLineEnd (drop n xs)
none_taken zero xs none_there = (tt, none_there)
none_taken (suc n) [] none_there = (tt, tt)
none_taken (suc n) (x ∷ xs) none_there = let rest = none_taken n xs none_there.1 in ((none_there.0, rest.0), rest.1)

-- a space and 0 bring none
filled_none : (line : List ℕ) → NoLineEnd line → NoLineEnd (filled_line line)
unfolding filled_line
filled_none line none_there = by_place (zero_place line)
  where
    by_place : (place : CodeOption ℕ) → NoLineEnd (with_zero line place)
    by_place None = none_there
    by_place (Some end) =
        let parts = none_taken end line none_there in
        none_appended (take end line) (space_and_zero ++ drop end line) parts.0 (refl, (refl, parts.1))

-- ---- the first line of a text, by the first LF

pub none_within : (xs : List ℕ) → NoLineEnd (take_while within xs)
none_within [] = tt
none_within (x ∷ xs) = go (eqb x 0x0A) refl (none_within xs)
  where
    go : (t : Bool) → eqb x 0x0A ≡ t → NoLineEnd (take_while within xs) → NoLineEnd (take_while within (x ∷ xs))
    go true e none_there = rw e tt
    go false e none_there = rw e (e, none_there)

pub up_to_line_end : (xs : List ℕ) → length (take_while within xs) < length xs → xs ≡ take_while within xs ++ (0x0A ∷ drop (suc (length (take_while within xs))) xs)
up_to_line_end [] shorter = absurd (omega arith)
up_to_line_end (x ∷ xs) shorter = go (eqb x 0x0A) refl (up_to_line_end xs)
  where
    go : (t : Bool) → eqb x 0x0A ≡ t
        → (length (take_while within xs) < length xs → xs ≡ take_while within xs ++ (0x0A ∷ drop (suc (length (take_while within xs))) xs))
        → x ∷ xs ≡ take_while within (x ∷ xs) ++ (0x0A ∷ drop (suc (length (take_while within (x ∷ xs)))) (x ∷ xs))
    go true e rest = rw e (ap (λ (b : ℕ). b ∷ xs) (eqb-true x 0x0A e))
    go false e rest = let left : suc (length (take_while within xs)) < suc (length xs) = rw e at shorter in
        rw e (ap (λ (l : List ℕ). x ∷ l) (rest (omega arith)))

pub up_to_text_end : (xs : List ℕ) → length xs ≤ length (take_while within xs) → xs ≡ take_while within xs
up_to_text_end [] all = refl
up_to_text_end (x ∷ xs) all = go (eqb x 0x0A) refl (up_to_text_end xs)
  where
    go : (t : Bool) → eqb x 0x0A ≡ t → (length xs ≤ length (take_while within xs) → xs ≡ take_while within xs) → x ∷ xs ≡ take_while within (x ∷ xs)
    go true e rest = let none_left : suc (length xs) ≤ 0 = rw e at all in absurd (omega arith)
    go false e rest = let left : suc (length xs) ≤ suc (length (take_while within xs)) = rw e at all in
        rw e (ap (λ (l : List ℕ). x ∷ l) (rest (omega arith)))

-- ---- a sheet by its lines

pub data ByLines : List ℕ → Type 0 where
  last : (line : List ℕ) → NoLineEnd line → ByLines line
  line_and : (line rest : List ℕ) → NoLineEnd line → ByLines rest → ByLines (line ++ (0x0A ∷ rest))

one_byte : (b : ℕ) (sheet : List ℕ) → eqb b 0x0A ≡ false → ByLines sheet → ByLines (b ∷ sheet)
one_byte b sheet other (last line none_there) = last (b ∷ line) (other, none_there)
one_byte b sheet other (line_and line rest none_there more) = line_and (b ∷ line) rest (other, none_there) more

pub by_lines : (sheet : List ℕ) → ByLines sheet
by_lines [] = last [] tt
by_lines (b ∷ sheet) = go (eqb b 0x0A) refl (by_lines sheet)
  where
    go : (t : Bool) → eqb b 0x0A ≡ t → ByLines sheet → ByLines (b ∷ sheet)
    go true e more = subst (λ (x : ℕ). ByLines (x ∷ sheet)) (sym (eqb-true b 0x0A e)) (line_and [] sheet tt more)
    go false e more = one_byte b sheet e more

-- ---- its lines

lines_and : (line rest : List ℕ) → NoLineEnd line → lines_of (line ++ (0x0A ∷ rest)) ≡ line ∷ lines_of rest
lines_and [] rest none_there = line_ends 0x0A rest refl
lines_and (b ∷ line) rest none_there = line_goes_on b (line ++ (0x0A ∷ rest)) none_there.0 ∙ ap (onto b) (lines_and line rest none_there.1)

lines_last : (line : List ℕ) → NoLineEnd line → 1 ≤ length line → lines_of line ≡ line ∷ []
unfolding lines_of
lines_last [] none_there some_bytes = absurd (omega arith)
lines_last (b ∷ []) none_there some_bytes = line_goes_on b [] none_there.0
lines_last (b ∷ c ∷ line) none_there some_bytes =
    line_goes_on b (c ∷ line) none_there.0 ∙ ap (onto b) (lines_last (c ∷ line) none_there.1 (omega arith))

-- ---- what it is filled to

filled_byte : (line : List ℕ) (b : ℕ) (rest : List ℕ) (t : Bool) → eqb b 0x0A ≡ t
    → filled_from line (b ∷ rest) ≡ elim t [ true ↦ filled_line line ++ (b ∷ filled_from [] rest) | false ↦ filled_from (line ++ (b ∷ [])) rest ]
unfolding filled_from
filled_byte line b rest t e = ap (λ (u : Bool). elim u [ true ↦ filled_line line ++ (b ∷ filled_from [] rest) | false ↦ filled_from (line ++ (b ∷ [])) rest ]) e

from_line_and : (line more rest : List ℕ) → NoLineEnd more → filled_from line (more ++ (0x0A ∷ rest)) ≡ filled_line (line ++ more) ++ (0x0A ∷ filled_from [] rest)
from_line_and line [] rest none_there =
    filled_byte line 0x0A rest true refl ∙ ap (λ (l : List ℕ). filled_line l ++ (0x0A ∷ filled_from [] rest)) (sym (append-nil line))
from_line_and line (b ∷ more) rest none_there =
    filled_byte line b (more ++ (0x0A ∷ rest)) false none_there.0
    ∙ from_line_and (line ++ (b ∷ [])) more rest none_there.1
    ∙ ap (λ (l : List ℕ). filled_line l ++ (0x0A ∷ filled_from [] rest)) (append_snoc line b more)

from_last : (line more : List ℕ) → NoLineEnd more → filled_from line more ≡ filled_line (line ++ more)
from_last line [] none_there = unfold filled_from in ap filled_line (sym (append-nil line))
from_last line (b ∷ more) none_there =
    filled_byte line b more false none_there.0 ∙ from_last (line ++ (b ∷ [])) more none_there.1 ∙ ap filled_line (append_snoc line b more)

pub filled_and : (line rest : List ℕ) → NoLineEnd line → filled (line ++ (0x0A ∷ rest)) ≡ filled_line line ++ (0x0A ∷ filled rest)
unfolding filled
filled_and line rest none_there = from_line_and [] line rest none_there

pub filled_last : (line : List ℕ) → NoLineEnd line → filled line ≡ filled_line line
unfolding filled
filled_last line none_there = from_last [] line none_there

-- ---- the laws on whole sheets

-- nothing is filled to nothing
pub nothing_filled : filled_line [] ≡ []
unfolding filled_line zero_place chars_of chars_within fields_of pieces
nothing_filled = refl

-- filling goes line by line
line_by_line : (sheet : List ℕ) → ByLines sheet → lines_of (filled sheet) ≡ map filled_line (lines_of sheet)
line_by_line sheet (line_and line rest none_there more) =
    ap lines_of (filled_and line rest none_there)
    ∙ lines_and (filled_line line) (filled rest) (filled_none line none_there)
    ∙ ap (λ (ls : List (List ℕ)). filled_line line ∷ ls) (line_by_line rest more)
    ∙ ap (map filled_line) (sym (lines_and line rest none_there))
line_by_line sheet (last [] none_there) = ap lines_of (filled_last [] none_there ∙ nothing_filled) ∙ unfold lines_of in refl
line_by_line sheet (last (b ∷ line) none_there) =
    ap lines_of (filled_last (b ∷ line) none_there)
    ∙ lines_last (filled_line (b ∷ line)) (filled_none (b ∷ line) none_there) (omega (arith, line_length (b ∷ line)))
    ∙ ap (map filled_line) (sym (lines_last (b ∷ line) none_there (omega arith)))

pub filled_line_by_line : FilledLineByLine
filled_line_by_line sheet = line_by_line sheet (by_lines sheet)

twice : (sheet : List ℕ) → ByLines sheet → filled (filled sheet) ≡ filled sheet
twice sheet (last line none_there) =
    ap filled (filled_last line none_there)
    ∙ filled_last (filled_line line) (filled_none line none_there)
    ∙ line_twice line
    ∙ sym (filled_last line none_there)
twice sheet (line_and line rest none_there more) =
    ap filled (filled_and line rest none_there)
    ∙ filled_and (filled_line line) (filled rest) (filled_none line none_there)
    ∙ rw (line_twice line, twice rest more) (sym (filled_and line rest none_there))

pub filled_twice : FilledTwice
filled_twice sheet = twice sheet (by_lines sheet)

second_kept : (sheet : List ℕ) → ByLines sheet → EachHasSecondField (lines_of sheet) → filled sheet ≡ sheet
second_kept sheet (last [] none_there) each = filled_last [] none_there ∙ nothing_filled
second_kept sheet (last (b ∷ line) none_there) each =
    let one = subst EachHasSecondField (lines_last (b ∷ line) none_there (omega arith)) each in
    filled_last (b ∷ line) none_there ∙ line_kept (b ∷ line) one.0
second_kept sheet (line_and line rest none_there more) each =
    let parts = subst EachHasSecondField (lines_and line rest none_there) each in
    filled_and line rest none_there ∙ rw (line_kept line parts.0, second_kept rest more parts.1)

pub second_fields_kept : SecondFieldsKept
second_fields_kept sheet each = second_kept sheet (by_lines sheet) each

short : (sheet : List ℕ) → ByLines sheet → length (filled sheet) ≤ 2 * length sheet + 1
short sheet (last line none_there) = let long : length (filled line) ≡ length (filled_line line) = ap length (filled_last line none_there) in
    omega (arith, line_length line)
short sheet (line_and line rest none_there more) =
    let long : length (filled (line ++ (0x0A ∷ rest))) ≡ length (filled_line line) + length (0x0A ∷ filled rest) = ap length (filled_and line rest none_there)
    ∙ length-append (filled_line line) (0x0A ∷ filled rest) in
    omega (arith, line_length line, short rest more, length-append line (0x0A ∷ rest))

pub filled_short : FilledShort
filled_short sheet = short sheet (by_lines sheet)
