-- The proof of `OldRuleKept`; those of the claims on sheets alone are in `Texts.antt`.
-- A filled sheet's lines are the sheet's lines filled, and each of them means now what it meant before by the old rule, unfilled: so the two loads enter the
-- same words with the same frequencies, one after the other, and stop at the same line for the same reason. What the book holds plays no part.
-- Assumes nothing.
use Rattle.std.specs.Prelude.{Ok, Err}
use mathlib.Core.Path.{◌≡◌, refl, ap, ◌∙◌}
use mathlib.Core.Bool.{Bool, true, false}
use mathlib.Core.List.{List, [], ◌∷◌, map}
use Prim.Native.Nat.{ℕ, ◌+◌}
use native.Mathlib.Omega.{arith}
use borrow.Author.Tests.{le-leb}
use lib.ListN.{length}
use Rattle.lines.specs.Lines.{lines_of, Meaning, malformed, blank, bad_frequency, entry, meaning_of}
use Rattle.book.specs.declared.Entering.TheVariants.{Replace, Insert}
use Rattle.book.specs.Returns.{Book, sized, longest_text}
use Rattle.book.specs.Enter.{enter, replaced, inserted, LoadAnswer, load_answer, load_lines, load_of, Decision}
use Rattle.sheets.specs.Filled.{filled_line, filled}
use Rattle.sheets.specs.OldRule.{old_meaning_of, old_load_lines, old_load_of}
use Rattle.sheets.specs.Claims.{OldRuleKept}
use Rattle.sheets.proofs.Lines.{meaning_filled}
use Rattle.sheets.proofs.Texts.{filled_line_by_line, filled_short}

lines_load : (ls : List (List ℕ)) (b : Book) (n : ℕ) → load_lines b n (map filled_line ls) ≡ old_load_lines b n ls
unfolding load_lines old_load_lines
lines_load [] b n = refl
lines_load (l ∷ ls) b n = by_meaning (old_meaning_of l) refl (meaning_filled l) (lines_load ls)
  where
    by_decision : (word : List ℕ) (frequency : ℕ) → ((c : Book) (k : ℕ) → load_lines c k (map filled_line ls) ≡ old_load_lines c k ls)
        → (d : Decision)
        → ◌≡◌ {A = LoadAnswer} (elim d [
          | Err r ↦ load_answer (Err r) (n + 1) b
          | Ok (Replace r total) ↦ load_lines (replaced b r frequency total) (n + 1) (map filled_line ls)
          | Ok (Insert slots nodes total) ↦ load_lines (inserted b word frequency slots nodes total) (n + 1) (map filled_line ls)
        ]) (elim d [
          | Err r ↦ load_answer (Err r) (n + 1) b
          | Ok (Replace r total) ↦ old_load_lines (replaced b r frequency total) (n + 1) ls
          | Ok (Insert slots nodes total) ↦ old_load_lines (inserted b word frequency slots nodes total) (n + 1) ls
        ])
    by_decision word frequency rest (Err o) = refl
    by_decision word frequency rest (Ok (Replace r total)) = rest (replaced b r frequency total) (n + 1)
    by_decision word frequency rest (Ok (Insert slots nodes total)) = rest (inserted b word frequency slots nodes total) (n + 1)

    by_meaning : (m : Meaning) → old_meaning_of l ≡ m → meaning_of (filled_line l) ≡ old_meaning_of l
        → ((c : Book) (k : ℕ) → load_lines c k (map filled_line ls) ≡ old_load_lines c k ls) → load_lines b n (map filled_line (l ∷ ls)) ≡ old_load_lines b n (l ∷ ls)
    by_meaning malformed e same rest = rw (same, e, load_lines, old_load_lines)
    by_meaning blank e same rest = rw (same, e, load_lines, old_load_lines) (rest b (n + 1))
    by_meaning bad_frequency e same rest = rw (same, e, load_lines, old_load_lines)
    by_meaning (entry word frequency) e same rest = rw (same, e, load_lines, old_load_lines) (by_decision word frequency rest (enter b word frequency))

pub old_rule_kept : OldRuleKept
unfolding load_of old_load_of
old_rule_kept b sheet short = go (sized b) refl
  where
    go : (t : Bool) → sized b ≡ t → load_of b (filled sheet) ≡ old_load_of b sheet
    go false e = rw e
    go true e =
        rw (e, le-leb (length (filled sheet)) longest_text (omega (arith, filled_short sheet)), le-leb (length sheet) longest_text (omega arith))
        (ap (load_lines b 0) (filled_line_by_line sheet) ∙ lines_load (lines_of sheet) b 0)
