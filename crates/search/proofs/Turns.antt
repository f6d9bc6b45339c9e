-- One call after another in `search_token`: what is left of what the token brings, put after what is written so far, comes to all of it. Assumes nothing.
use mathlib.Core.List.{List, [], ◌∷◌, ◌++◌}
use Rattle.std.specs.Prelude.{Result, Ok, Err}
use mathlib.Core.Path.{◌≡◌, refl, ◌∙◌}
use Prim.Native.Nat.{ℕ}
use Rattle.book.specs.Prefixes.{Edge}
use Rattle.cuts.specs.declared.CutError.{CutError}
use Rattle.cuts.specs.Tokens.{Span, parts_of, words_of_size, Base, Written, written}
use Rattle.cuts.specs.Cuts.{CutAnswer, cut_answer, put_spans}
use Rattle.cuts.proofs.Sequence.{stops_there, goes_on_there}
use Rattle.search.specs.Brought.{brought_by}

-- the parts, which `emit_parts` answers with r₁
module _ (place : Base) (cs : List ℕ) (rows : List (List Edge)) (s : Span) (w : Written)
    (r₁ : Result ℕ CutError) (area₁ : List ℕ) (put₁ : cut_answer r₁ area₁ ≡ put_spans place cs w (parts_of cs s)) where
  -- what the token brings
  abbrev total : CutAnswer
  total = put_spans place cs w (brought_by cs rows s)

  in_order : brought_by cs rows s ≡ parts_of cs s ++ (words_of_size 2 rows s ++ (words_of_size 3 rows s ++ (s ∷ [])))
  unfolding brought_by
  in_order = refl

  pub parts_refused : {e : CutError} → r₁ ≡ Err e → cut_answer (Err e) area₁ ≡ total
  parts_refused e = stops_there place cs w refl (parts_of cs s) _ in_order r₁ area₁ put₁ e

  -- its words of two characters, which `emit_words` answers with r₂
  module _ {m₁ : ℕ} (done₁ : r₁ ≡ Ok m₁) (r₂ : Result ℕ CutError) (area₂ : List ℕ)
      (put₂ : cut_answer r₂ area₂ ≡ put_spans place cs (written m₁ area₁) (words_of_size 2 rows s)) where
    after₁ : put_spans place cs (written m₁ area₁) (words_of_size 2 rows s ++ (words_of_size 3 rows s ++ (s ∷ []))) ≡ total
    after₁ = goes_on_there place cs w refl (parts_of cs s) _ in_order r₁ area₁ put₁ done₁

    pub pairs_refused : {e : CutError} → r₂ ≡ Err e → cut_answer (Err e) area₂ ≡ total
    pairs_refused e = stops_there place cs (written m₁ area₁) after₁ (words_of_size 2 rows s) _ refl r₂ area₂ put₂ e

    -- those of three, which it answers with r₃
    module _ {m₂ : ℕ} (done₂ : r₂ ≡ Ok m₂) (r₃ : Result ℕ CutError) (area₃ : List ℕ)
        (put₃ : cut_answer r₃ area₃ ≡ put_spans place cs (written m₂ area₂) (words_of_size 3 rows s)) where
      after₂ : put_spans place cs (written m₂ area₂) (words_of_size 3 rows s ++ (s ∷ [])) ≡ total
      after₂ = goes_on_there place cs (written m₁ area₁) after₁ (words_of_size 2 rows s) _ refl r₂ area₂ put₂ done₂

      pub triples_refused : {e : CutError} → r₃ ≡ Err e → cut_answer (Err e) area₃ ≡ total
      triples_refused e = stops_there place cs (written m₂ area₂) after₂ (words_of_size 3 rows s) _ refl r₃ area₃ put₃ e

      -- itself, which `emit_span` answers with r₄
      pub itself : {m₃ : ℕ} → r₃ ≡ Ok m₃ → (r₄ : Result ℕ CutError) (area₄ : List ℕ)
          → cut_answer r₄ area₄ ≡ put_spans place cs (written m₃ area₃) (s ∷ [])
          → cut_answer r₄ area₄ ≡ total
      itself done₃ r₄ area₄ put₄ = put₄ ∙ goes_on_there place cs (written m₂ area₂) after₂ (words_of_size 3 rows s) _ refl r₃ area₃ put₃ done₃
