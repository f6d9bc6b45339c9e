-- A line's answer, by what `parse_line` says of it.
-- Assumes nothing.
use mathlib.Core.Path.{◌≡◌, refl, sym, ap, ◌∙◌}
use mathlib.Core.List.{List}
use mathlib.Core.Option.{IsSome}
use Prim.Native.Nat.{ℕ, ◌-◌, ◌≤◌}
use native.Mathlib.Omega.{arith}
use lib.ListN.{length, take, drop, length-take}
use Rattle.std.specs.Prelude.{Result, Ok, Err, Option, Some, None}
use Rattle.classes.specs.WhiteSpace.{white_space}
use Rattle.utf8.specs.Text.{chars_of}
use Rattle.lines.specs.declared.Entry.{Entry}
use Rattle.lines.specs.declared.LineError.{LineError}
use Rattle.lines.specs.Lines.{Meaning, malformed, blank, bad_frequency, entry, meaning_of, past, entry_from, line_placed, line_of}
use Rattle.lines.proofs.Meanings.{EntryFound, entry_found}
use Rattle.book.specs.Returns.{Book, refusal_of_line}
use Rattle.entry.specs.Texts.{EnterAnswer, enter_answer, enter_text, enter_meaning, enter_line}

-- what is answered, where it is known before the word enters
abbrev Parsed : Type 0
Parsed = Result (Option Entry) LineError

abbrev answer_to : Book → List ℕ → Parsed → EnterAnswer
answer_to b line (Err e) = enter_answer (Err (refusal_of_line e)) b
answer_to b line (Ok None) = enter_answer (Ok tt) b
answer_to b line (Ok (Some e)) = enter_line b line

module _ (b : Book) (line : List ℕ) {l : Parsed} (parsed : l ≡ line_of line) where
  by_meaning : (start : ℕ) (m : Meaning) → meaning_of line ≡ m → answer_to b line (line_placed start m) ≡ enter_meaning b m
  unfolding enter_line
  by_meaning start malformed e = refl
  by_meaning start blank e = refl
  by_meaning start bad_frequency e = refl
  by_meaning start (entry word n) e = rw e

  by_line : answer_to b line l ≡ enter_line b line
  unfolding line_of enter_line
  by_line = ap (answer_to b line) parsed ∙ by_meaning (past white_space 0 (chars_of line)) (meaning_of line) refl

  pub line_refused : {e : LineError} → l ≡ Err e → enter_answer (Err (refusal_of_line e)) b ≡ enter_line b line
  line_refused e = rw e at by_line

  pub line_blank : l ≡ Ok None → enter_answer (Ok tt) b ≡ enter_line b line
  line_blank e = rw e at by_line

-- the word of a line that has one
module _ (line : List ℕ) {l : Parsed} (parsed : l ≡ line_of line) {start end n : ℕ} (e : l ≡ entry_from start end n) where
  found : EntryFound line start end n
  found = entry_found line start end n (sym parsed ∙ e)

  pub word_inside : (start ≤ end) × (end ≤ length line)
  word_inside = (found.order, found.inside)

  pub word_chars : IsSome (chars_of (take (end - start) (drop start line)))
  word_chars = rw found.bytes tt

  pub word_short : (k : ℕ) → length line ≤ k → length (take (end - start) (drop start line)) ≤ k
  word_short k h = let inside = found.inside in let order = found.order in omega (arith, length-take (end - start) (drop start line))

  pub word_entered : (b : Book) {a : EnterAnswer} → a ≡ enter_text b (chars_of (take (end - start) (drop start line))) n → a ≡ enter_line b line
  unfolding enter_line enter_text
  word_entered b q = q ∙ rw (found.bytes, found.means)
