-- The loop of `emit_words`: the words that are left, put after what is written so far, come to what all of the token's words of the size come to, wherever
-- the block stands. Assumes nothing.
use Rattle.std.specs.Prelude.{Result, Ok, Err}
use Prim.Native.Nat.{ℕ, ◌+◌, ◌-◌, ◌≤◌, ◌<◌}
use mathlib.Core.List.{List, [], ◌∷◌}
use mathlib.Core.Path.{◌≡◌, refl, sym, ap, ◌∙◌}
use native.Mathlib.Nat.{le_refl}
use native.Mathlib.Omega.{arith}
use lib.Ieee.{Float}
use lib.ListN.{length}
use Rattle.route.specs.Slices.{rows_of}
use Rattle.cuts.specs.declared.CutError.{CutError}
use Rattle.cuts.specs.Slices.{Placed}
use Rattle.cuts.specs.Tokens.{Span, span, those, held_between, words_of_size, Base, written}
use Rattle.cuts.specs.Cuts.{CutAnswer, answer, cut_answer, put_spans}
use Rattle.cuts.proofs.Sequence.{all_put, stops_there, goes_on_there}
use Rattle.search_words.proofs.Words.{words_left, word_then, no_words, all_words, too_few}

module _ (size : ℕ) (offsets starts ends : List ℕ) (base x y : ℕ) (area₀ : List ℕ) (count₀ : ℕ) where
  -- the token's words of the size
  abbrev words_in : ℕ → List ℕ → List Float → List Span
  words_in n records logarithms = words_of_size size (rows_of starts ends records logarithms n) (span x y)

  -- an answer is that of all of them
  abbrev pub AllWords : CutAnswer → Type 0
  AllWords a = (place : Base) (cs : List ℕ) (n : ℕ) (records : List ℕ) (logarithms : List Float) → Placed place base cs offsets → y ≤ length cs → y ≤ n
      → a ≡ put_spans place cs (written count₀ area₀) (words_in n records logarithms)

  -- those that end before a position are written
  pub record WordsPut (area : List ℕ) (count end : ℕ) : Type 0 where
    pub first : x + size ≤ end
    pub last : end ≤ y + 1
    pub long : length area ≡ length area₀
    pub same : (place : Base) (cs : List ℕ) (n : ℕ) (records : List ℕ) (logarithms : List Float) → Placed place base cs offsets → y ≤ length cs → y ≤ n
        → put_spans place cs (written count area) (words_left size (rows_of starts ends records logarithms n) y end)
        ≡ put_spans place cs (written count₀ area₀) (words_in n records logarithms)

  pub words_begin : size < y - x → WordsPut area₀ count₀ (x + size)
  words_begin more =
      record {
        first = le_refl (x + size);
        last = omega arith;
        long = refl;
        same = λ place cs n records logarithms known in_cs in_rows.
            ap (put_spans place cs (written count₀ area₀)) (sym (all_words size (rows_of starts ends records logarithms n) y x more));
      }

  -- a token with no more characters has none
  pub words_none : y - x ≤ size → AllWords (answer (Ok tt) (written count₀ area₀))
  words_none few place cs n records logarithms known in_cs in_rows =
      all_put place cs (written count₀ area₀) {spans = words_in n records logarithms} refl (too_few size (rows_of starts ends records logarithms n) y x few)

  module _ {area : List ℕ} {count end : ℕ} (here : WordsPut area count end) where
    pub words_end : y < end → AllWords (answer (Ok tt) (written count area))
    words_end h place cs n records logarithms known in_cs in_rows =
        all_put place cs (written count area) (here.same place cs n records logarithms known in_cs in_rows)
        (no_words size (rows_of starts ends records logarithms n) y end h)

    -- a stretch, which `push_gram` answers with r
    module _ (inside : end ≤ y) (some : 0 < size) (r : Result ℕ CutError) (after : List ℕ)
        (put : (place : Base) (cs : List ℕ) (n : ℕ) (records : List ℕ) (logarithms : List Float) → Placed place base cs offsets → end ≤ length cs
        → end - size < n
        → cut_answer r after ≡ put_spans place cs (written count area)
        (those (held_between (rows_of starts ends records logarithms n)) (span (end - size) end ∷ []))) where
      sized : size ≤ end
      sized = omega (arith, here.first)

      pub word_refused : {e : CutError} → r ≡ Err e → AllWords (cut_answer (Err e) after)
      word_refused e place cs n records logarithms known in_cs in_rows =
          stops_there place cs (written count area) (here.same place cs n records logarithms known in_cs in_rows) _ _
          (word_then size (rows_of starts ends records logarithms n) y end sized inside) r after
          (put place cs n records logarithms known (omega arith) (omega (arith, sized))) e

      pub word_put : {m : ℕ} → r ≡ Ok m → length after ≡ length area → WordsPut after m (end + 1)
      word_put e kept =
          record {
            first = omega (arith, here.first);
            last = omega arith;
            long = kept ∙ here.long;
            same = λ place cs n records logarithms known in_cs in_rows.
                goes_on_there place cs (written count area) (here.same place cs n records logarithms known in_cs in_rows) _ _
                (word_then size (rows_of starts ends records logarithms n) y end sized inside) r after
                (put place cs n records logarithms known (omega arith) (omega (arith, sized))) e;
          }
