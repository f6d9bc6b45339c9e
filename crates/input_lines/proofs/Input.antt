-- The input's lines, a byte at a time: what is kept and what is left of the input make the whole. And the proofs of the claims on the input.
-- Assumes nothing.
use Prim.Native.Nat.{ℕ, suc, ◌+◌, ◌-◌, ◌≤◌, ◌<◌, min}
use mathlib.Core.Bool.{Bool, true, false}
use mathlib.Core.List.{List, [], ◌∷◌, ◌++◌, append-nil}
use mathlib.Core.Path.{◌≡◌, refl, sym, ap, ◌∙◌}
use native.Mathlib.Decide.{dec_lt}
use native.Mathlib.Omega.{arith}
use borrow.Author.Tests.{ltb-true, ltb-false, lt-ltb, le-ltb, ne_eqb}
use lib.Dec.{eqb}
use lib.ListN.{length, take, drop, length-append}
use lib.Seq.{length-take-le, take_all, take_at, append_snoc}
use Rattle.printing.specs.Answers.{line_end}
use Rattle.std.proofs.Common.{◌==◌, nat_lt, not, cond, subst}
use Rattle.std.proofs.Math.Seq.{take-append-add}
use borrow.Rule.Slice.PartMut.{put_mid}
use Rattle.std.proofs.lemmas.Slice.{take-put_mid}
use Rattle.std.proofs.lemmas.Bool.{eqb-true, eqb-false}
use Rattle.std.specs.Prelude.{Some, None}
use Rattle.std.specs.List.{position, position_or_len}
use Rattle.input_lines.specs.Input.{most_kept, keep, taken, line_from}
use Rattle.input_lines.specs.Claims.{NoLineEnd, LinesEndAtLineEnds, LastLineNeedsNone, after, PiecesMakeNoDifference}

-- ---- a byte of the input

by_byte : (line : List ℕ) (b : ℕ) (input : List ℕ) (t : Bool) → eqb b line_end ≡ t
    → line_from line (b ∷ input) ≡ elim t [ true ↦ taken line (Some input) | false ↦ line_from (keep line b) input ]
unfolding line_from
by_byte line b input t e = ap (λ (u : Bool). elim u [ true ↦ taken line (Some input) | false ↦ line_from (keep line b) input ]) e

-- while there is room it is kept
keep_more : (line : List ℕ) (b : ℕ) → length line < most_kept → keep line b ≡ line ++ (b ∷ [])
keep_more line b room = rw (lt-ltb (length line) most_kept room)

keep_no_more : (line : List ℕ) (b : ℕ) → most_kept ≤ length line → keep line b ≡ line
keep_no_more line b full = rw (le-ltb (length line) most_kept full)

-- ---- a stretch of the input without an LF is kept as far as there is room

stretch : (line bytes more : List ℕ) → NoLineEnd bytes → length line ≤ most_kept → line_from line (bytes ++ more) ≡ line_from (take most_kept (line ++ bytes)) more
stretch line [] more none few = ap (λ (l : List ℕ). line_from l more) (sym (take_all most_kept (line ++ []) (rw append-nil few) ∙ append-nil line))
stretch line (b ∷ bytes) more none few =
    elim (dec_lt (length line) most_kept) [
      | yes room ↦
          by_byte line b (bytes ++ more) false (ne_eqb b line_end none.0)
          ∙ ap (λ (l : List ℕ). line_from l (bytes ++ more)) (keep_more line b room)
          ∙ stretch (line ++ (b ∷ [])) bytes more none.1 (rw length-append (omega arith))
          ∙ ap (λ (l : List ℕ). line_from (take most_kept l) more) (append_snoc line b bytes)
      | no full ↦
          let long : length line ≡ most_kept = omega arith in
          by_byte line b (bytes ++ more) false (ne_eqb b line_end none.0)
          ∙ ap (λ (l : List ℕ). line_from l (bytes ++ more)) (keep_no_more line b (omega arith))
          ∙ stretch line bytes more none.1 few
          ∙ ap (λ (l : List ℕ). line_from l more) (take_at line bytes most_kept long ∙ sym (take_at line (b ∷ bytes) most_kept long))
    ]

pub lines_end_at_line_ends : LinesEndAtLineEnds
unfolding line_from
lines_end_at_line_ends line rest none = stretch [] line (line_end ∷ rest) none (omega arith)

pub last_line_needs_none : LastLineNeedsNone
unfolding line_from
last_line_needs_none line none = ap (line_from []) (sym (append-nil line)) ∙ stretch [] line [] none (omega arith)

-- ---- pieces

pieces_by : (line : List ℕ) (b : ℕ) (piece more : List ℕ) (test : Bool)
    → line_from (keep line b) (piece ++ more) ≡ after more (line_from (keep line b) piece)
    → elim test [ true ↦ taken line (Some (piece ++ more)) | false ↦ line_from (keep line b) (piece ++ more) ]
    ≡ after more (elim test [ true ↦ taken line (Some piece) | false ↦ line_from (keep line b) piece ])
pieces_by line b piece more true e = refl
pieces_by line b piece more false e = e

pub pieces_make_no_difference : PiecesMakeNoDifference
unfolding line_from
pieces_make_no_difference line [] more = refl
pieces_make_no_difference line (b ∷ piece) more = pieces_by line b piece more (eqb b line_end) (pieces_make_no_difference (keep line b) piece more)

-- ---- what `take_line` takes: the input up to its first LF, or all of it

first_end : List ℕ → ℕ
first_end input = position_or_len (λ b. b == line_end) input

record UpToLineEnd (n : ℕ) (input : List ℕ) : Type 0 where
  before : NoLineEnd (take n input)
  there : n < length input → take n input ++ (line_end ∷ drop (n + 1) input) ≡ input

up_to_by : (b : ℕ) (input : List ℕ) (n : ℕ) (t : Bool) → eqb b line_end ≡ t → UpToLineEnd n input → UpToLineEnd (cond (not t) (1 + n) 0) (b ∷ input)
up_to_by b input n true e rest = record { before = tt; there = λ inside. ap (λ (x : ℕ). x ∷ input) (sym (eqb-true b line_end e)) }
up_to_by b input n false e rest =
    let next : 1 + n ≡ suc n = omega arith in
    let after : suc n + 1 ≡ suc (n + 1) = omega arith in
    record {
      before = rw next (eqb-false b line_end e, rest.before);
      there = λ inside. rw (next, after) (ap (λ (xs : List ℕ). b ∷ xs) (rest.there (omega arith)));
    }

up_to : (input : List ℕ) → UpToLineEnd (first_end input) input
unfolding first_end
up_to [] = record { before = tt; there = λ inside. absurd (omega arith) }
up_to (b ∷ input) = up_to_by b input (first_end input) (eqb b line_end) refl (up_to input)

found_by : (m count n : ℕ) (t : Bool) → nat_lt m count ≡ t → Some n ≡ cond t (Some m) None → (n ≡ m) × (m < count)
found_by m count n true e is = (cc, ltb-true m count e)
found_by m count n false e is = cc

not_found_by : (m count : ℕ) (t : Bool) → nat_lt m count ≡ t → None ≡ cond t (Some m) None → count ≤ m
not_found_by m count true e is = cc
not_found_by m count false e is = ltb-false m count e

module _ (line input : List ℕ) (few : length line ≤ most_kept) where
  whole_by : (n : ℕ) → n < length input → UpToLineEnd n input → line_from line input ≡ taken (take most_kept (line ++ take n input)) (Some (drop (n + 1) input))
  unfolding line_from
  whole_by n inside parts =
      ap (line_from line) (sym (parts.there inside)) ∙ stretch line (take n input) (line_end ∷ drop (n + 1) input) parts.before few

  pub whole_line : (n : ℕ) → Some n ≡ position (λ b. b == line_end) input
      → taken (take most_kept (line ++ take n input)) (Some (drop (n + 1) input)) ≡ line_from line input
  unfolding first_end
  whole_line n is =
      let found = found_by (first_end input) (length input) n (nat_lt (first_end input) (length input)) refl is in
      rw found.0 (sym (whole_by (first_end input) found.1 (up_to input)))

  pub unfinished_line : None ≡ position (λ b. b == line_end) input → taken (take most_kept (line ++ input)) None ≡ line_from line input
  unfolding first_end line_from
  unfinished_line is =
      let far = not_found_by (first_end input) (length input) (nat_lt (first_end input) (length input)) refl is in
      let none : NoLineEnd input = subst NoLineEnd (take_all (first_end input) input far) (up_to input).before in
      sym (ap (line_from line) (sym (append-nil input)) ∙ stretch line input [] none few)

-- ---- what `Line::keep` keeps

as_fits : (line bytes : List ℕ) (n : ℕ) → length line ≤ most_kept → n ≡ min (length bytes) (most_kept - length line)
    → line ++ take n bytes ≡ take most_kept (line ++ bytes)
as_fits line bytes n few is =
    elim (dec_lt (length bytes) (most_kept - length line)) [
      | yes all ↦
          ap (λ (xs : List ℕ). line ++ xs) (take_all n bytes (omega arith))
          ∙ sym (take_all most_kept (line ++ bytes) (rw length-append (omega arith)))
      | no full ↦
          let whole : most_kept ≡ length line + n = omega arith in
          sym (rw whole (take-append-add line bytes n))
    ]

pub bytes_kept : (kept bytes ys : List ℕ) (count n k : ℕ) → count ≤ most_kept → length kept ≡ most_kept
    → n ≡ min (length bytes) (most_kept - count) → ys ≡ take n bytes
    → take (count + n) (put_mid count k kept ys) ≡ take most_kept (take count kept ++ bytes)
bytes_kept kept bytes ys count n k few long is copied =
    let there : length (take count kept) ≡ count = length-take-le count kept (omega arith) in
    let some : length ys ≡ n = ap length copied ∙ length-take-le n bytes (omega arith) in
    take-put_mid count k kept ys (count + n) (omega arith) (omega arith)
    ∙ ap (λ (xs : List ℕ). take count kept ++ xs) copied
    ∙ as_fits (take count kept) bytes n (omega arith) (omega arith)
