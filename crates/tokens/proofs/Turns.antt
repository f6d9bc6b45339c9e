-- A turn of the loops of `cut_unmatched`, `cut_all_unmatched` and `cut_route::cut_route`, which are alike: some spans are written, and the rest of the block's
-- spans start where they end. What is kept at each turn is `Putting`: the spans from x on, put after what is written so far, come to what all spans of
-- the block come to, wherever the block stands.
-- Assumes nothing.
use Rattle.std.specs.Prelude.{Result, Ok, Err}
use Prim.Native.Nat.{ℕ, ◌≤◌, ◌<◌}
use mathlib.Core.List.{List, [], ◌∷◌, ◌++◌}
use mathlib.Core.Path.{◌≡◌, refl, ap, ◌∙◌}
use native.Mathlib.Omega.{arith}
use lib.ListN.{length}
use Rattle.cuts.specs.declared.CutError.{CutError}
use Rattle.cuts.specs.Slices.{Placed}
use Rattle.cuts.specs.Tokens.{Span, span, Base, written}
use Rattle.cuts.specs.Cuts.{CutAnswer, answer, cut_answer, put_spans}
use Rattle.cuts.proofs.Sequence.{all_put, stops_there, goes_on_there}

-- a turn from x goes to y: these are the first spans left, and the others start there
pub record Turning (n : ℕ) (rest : ℕ → List Span) (x y : ℕ) (these : List Span) : Type 0 where
  pub forward : x < y
  pub inside : y ≤ n
  pub first : rest x ≡ these ++ rest y

-- the first span left ends there
abbrev pub Turn : ℕ → (ℕ → List Span) → ℕ → ℕ → Type 0
Turn n rest x y = Turning n rest x y (span x y ∷ [])

-- a block's characters and their offsets, the spans from each of its positions on, and what was written before it
module _ (chars offsets : List ℕ) (n base : ℕ) (rest : ℕ → List Span) (area₀ : List ℕ) (count₀ : ℕ) where
  -- an answer is that of all the block's spans
  abbrev pub All : CutAnswer → Type 0
  All a = (spans : List Span) → rest 0 ≡ spans → (place : Base) → Placed place base chars offsets → a ≡ put_spans place chars (written count₀ area₀) spans

  pub record Putting (area : List ℕ) (count x : ℕ) : Type 0 where
    pub inside : x ≤ n
    pub long : length area ≡ length area₀
    pub same : (place : Base) → Placed place base chars offsets
        → put_spans place chars (written count area) (rest x) ≡ put_spans place chars (written count₀ area₀) (rest 0)

  pub begins : Putting area₀ count₀ 0
  begins = record { inside = omega arith; long = refl; same = λ place known. refl }

  module _ {area : List ℕ} {count x : ℕ} (here : Putting area count x) where
    -- no span is left
    pub ends : rest x ≡ [] → All (answer (Ok tt) (written count area))
    ends none spans all place known =
        all_put place chars (written count area) (here.same place known) none
        ∙ ap (put_spans place chars (written count₀ area₀)) all

    -- some spans, which a call answers with r
    module _ {y : ℕ} {these : List Span} (turn : Turning n rest x y these) (r : Result ℕ CutError) (after : List ℕ)
        (put : (place : Base) → Placed place base chars offsets → cut_answer r after ≡ put_spans place chars (written count area) these) where
      pub refused : {e : CutError} → r ≡ Err e → All (cut_answer (Err e) after)
      refused e spans all place known =
          stops_there place chars (written count area) (here.same place known) these (rest y) turn.first r after (put place known) e
          ∙ ap (put_spans place chars (written count₀ area₀)) all

      pub one_more : {m : ℕ} → r ≡ Ok m → length after ≡ length area → Putting after m y
      one_more e kept =
          record {
            inside = turn.inside;
            long = kept ∙ here.long;
            same = λ place known.
                goes_on_there place chars (written count area) (here.same place known) these (rest y) turn.first r after (put place known) e;
          }

-- what `emit_span` answers of a span that ends at y, of a block of n characters
pub emitted_in : (chars offsets : List ℕ) (n base x y count : ℕ) (area : List ℕ) (r : Result ℕ CutError) (after : List ℕ) → length chars ≡ n → y ≤ n
    → ((place : Base) (cs : List ℕ) → Placed place base cs offsets → y ≤ length cs → cut_answer r after ≡ put_spans place cs (written count area) (span x y ∷ []))
    → (place : Base) → Placed place base chars offsets → cut_answer r after ≡ put_spans place chars (written count area) (span x y ∷ [])
emitted_in chars offsets n base x y count area r after long inside put place known = put place chars known (omega arith)
