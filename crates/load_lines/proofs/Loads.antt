-- A load, line by line from a position of the text on: each line's answer stops the load or goes on to the line after it. The lines keep the lengths of
-- all areas, so that the sizes are tested once.
-- Assumes nothing.
use Rattle.std.specs.Prelude.{Ok, Err}
use mathlib.Core.Path.{◌≡◌, refl, sym, ap, ◌∙◌}
use mathlib.Core.Bool.{true}
use mathlib.Core.List.{List}
use Prim.Native.Nat.{ℕ, ◌+◌, ◌-◌, ◌<◌, ◌≤◌}
use native.Mathlib.Nat.{le_of_lt}
use native.Mathlib.Omega.{arith}
use lib.Ieee.{Float}
use lib.ListN.{length, take, drop, length-take, length-drop}
use Rattle.lines.specs.Lines.{lines_of, line_end}
use Rattle.lines.proofs.Ends.{lines_at, lines_end, end_bounds}
use Rattle.book.specs.Returns.{Book}
use Rattle.book.specs.Areas.{areas_allowed}
use Rattle.book.specs.declared.Refusal.{Refusal}
use Rattle.book.specs.Enter.{loaded, load_lines}
use Rattle.book.proofs.Outcomes.{not_done}
use Rattle.entry.specs.Texts.{EnterAnswer, enter_line}
use Rattle.entry.proofs.Lines.{load_on, load_line_lem}
use Rattle.load_lines.specs.Answers.{lines_loaded}

-- ---- the areas keep their lengths

pub record SameLong (roots₀ slots₀ records₀ : List ℕ) (logarithms₀ : List Float) (roots slots records : List ℕ) (logarithms : List Float) : Type 0 where
  pub same_roots : length roots ≡ length roots₀
  pub same_slots : length slots ≡ length slots₀
  pub same_records : length records ≡ length records₀
  pub same_logarithms : length logarithms ≡ length logarithms₀

pub as_long : (roots slots records : List ℕ) (logarithms : List Float) → SameLong roots slots records logarithms roots slots records logarithms
as_long roots slots records logarithms = record { same_roots = refl; same_slots = refl; same_records = refl; same_logarithms = refl }

pub still_sized : {roots₀ slots₀ records₀ : List ℕ} {logarithms₀ : List Float} {roots slots records : List ℕ} {logarithms : List Float}
    → SameLong roots₀ slots₀ records₀ logarithms₀ roots slots records logarithms
    → areas_allowed (length roots₀) (length slots₀) (length records₀) (length logarithms₀) ≡ true
    → areas_allowed (length roots) (length slots) (length records) (length logarithms) ≡ true
still_sized s e = rw (s.same_roots, s.same_slots, s.same_records, s.same_logarithms) e

-- ---- the lines

-- before a line: so many lines have been read, up to a position, and what the lines from there on come to is what the whole text comes to
pub record Loading (b₀ : Book) (text : List ℕ) (b : Book) (n at : ℕ) : Type 0 where
  pub same : lines_loaded b n text at ≡ lines_loaded b₀ 0 text 0
  pub counted : n ≤ at
  pub inside : at ≤ length text + 1

pub begins : (b : Book) (text : List ℕ) → Loading b text b 0 0
begins b text = record {
  same = refl;
  counted =
      omega arith;
  inside = omega arith;
}

module _ {b₀ : Book} {text : List ℕ} {b : Book} {n at : ℕ} (turn : Loading b₀ text b n at) where
  pub ends : length text ≤ at → loaded (Ok n) b ≡ lines_loaded b₀ 0 text 0
  unfolding lines_loaded load_lines
  ends h = all_read ∙ turn.same
    where
      all_read : loaded (Ok n) b ≡ lines_loaded b n text at
      all_read = rw (lines_end text at h)

  module _ (h : at < length text) {end : ℕ} (q : end ≡ line_end text at) where
    pub line_inside : (at ≤ end) × (end ≤ length text)
    line_inside = rw q (end_bounds text at (le_of_lt h))

    pub line_short : {k : ℕ} → length text ≤ k → length (take (end - at) (drop at text)) ≤ k
    line_short l = omega (arith, length-take (end - at) (drop at text), length-drop at text)

    module _ {e : EnterAnswer} (f : e ≡ enter_line b (take (end - at) (drop at text))) where
      one_line : load_on e n (lines_of (drop (end + 1) text)) ≡ lines_loaded b n text at
      unfolding lines_loaded
      one_line =
          load_line_lem b n (take (end - at) (drop at text)) (lines_of (drop (end + 1) text)) e f
          ∙ rw q (ap (load_lines b n) (sym (lines_at text at (le_of_lt h) h)))

      pub stops : {r : Refusal} → e.outcome ≡ Err r → loaded (Err (record { refusal = r; line = n + 1 })) e.book ≡ lines_loaded b₀ 0 text 0
      stops {r} z = sym (rw (z, not_done r)) ∙ one_line ∙ turn.same

      pub goes_on : {done : Unit {0}} → e.outcome ≡ Ok done → Loading b₀ text e.book (n + 1) (end + 1)
      unfolding lines_loaded
      goes_on z = record {
        same = rest ∙ turn.same;
        counted = let l = line_inside in let k = turn.counted in omega arith;
        inside = let l = line_inside in omega arith;
      }
        where
          rest : lines_loaded e.book (n + 1) text (end + 1) ≡ lines_loaded b n text at
          rest = sym (rw z) ∙ one_line
