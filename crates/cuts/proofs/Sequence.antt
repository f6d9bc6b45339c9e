-- One part of a cut after another: `and_then` goes on exactly where the outcome is done, and tokens that are put one by one are put in sequence.
-- Assumes nothing.
use Rattle.std.specs.Prelude.{Result, Ok, Err}
use mathlib.Core.Path.{◌≡◌, refl, sym, ap, fun_ext, ◌∙◌}
use mathlib.Core.Bool.{Bool, true, false}
use mathlib.Core.List.{List, [], ◌∷◌, ◌++◌}
use Prim.Native.Nat.{ℕ}
use Rattle.book.specs.declared.Refusal.TheVariants.{TokensFull}
use Rattle.book.specs.Returns.{is_done}
use Rattle.book.proofs.Outcomes.{not_done}
use Rattle.cuts.specs.declared.CutError.{CutError}
use Rattle.cuts.specs.Tokens.{Span, Base, Written, has_place, put, token_of, written}
use Rattle.cuts.specs.Cuts.{CutAnswer, answer, cut_answer, and_then, put_spans}

-- ---- the two cases of `and_then`

pub goes_on : (a : CutAnswer) (next : Written → CutAnswer) → is_done a.outcome ≡ true → and_then a next ≡ next a.written
goes_on a next e = rw (and_then, e)

pub stops : (a : CutAnswer) (next : Written → CutAnswer) → is_done a.outcome ≡ false → and_then a next ≡ a
stops a next e = rw (and_then, e)

-- what comes after may be given in other words
pub then_alike : (a : CutAnswer) (next next' : Written → CutAnswer) → ((w : Written) → next w ≡ next' w) → and_then a next ≡ and_then a next'
then_alike a next next' same = ap (and_then a) (fun_ext same)

-- one after another, in either grouping
pub then_after : (a : CutAnswer) (next last : Written → CutAnswer) → and_then (and_then a next) last ≡ and_then a (λ w. and_then (next w) last)
then_after a next last = by (is_done a.outcome) refl
  where
    by : (t : Bool) → is_done a.outcome ≡ t → and_then (and_then a next) last ≡ and_then a (λ w. and_then (next w) last)
    by true e = ap (λ (x : CutAnswer). and_then x last) (goes_on a next e) ∙ sym (goes_on a (λ w. and_then (next w) last) e)
    by false e = ap (λ (x : CutAnswer). and_then x last) (stops a next e) ∙ stops a last e ∙ sym (stops a (λ w. and_then (next w) last) e)

-- ---- the same of what the code returns

module _ {r : Result ℕ CutError} (after : List ℕ) (next : Written → CutAnswer) where
  pub cut_goes_on : {count : ℕ} → r ≡ Ok count → and_then (cut_answer r after) next ≡ next (written count after)
  cut_goes_on e = rw e

  pub cut_stops : {e : CutError} → r ≡ Err e → and_then (cut_answer r after) next ≡ cut_answer (Err e) after
  cut_stops {e} q = rw q (stops (cut_answer (Err e) after) next (not_done e.refusal))

-- ---- tokens one by one

module _ (base : Base) (chars : List ℕ) where
  pub put_none : (w : Written) → put_spans base chars w [] ≡ answer (Ok tt) w
  unfolding put_spans
  put_none w = refl

  -- where there is a place, a token is written
  pub put_one : (w : Written) (s : Span) → has_place w ≡ true
      → put_spans base chars w (s ∷ []) ≡ answer (Ok tt) (put w (token_of base chars s))
  unfolding put_spans
  put_one w s e = rw (put_spans, e)

  -- where there is none, it stops
  pub put_refused : (w : Written) (s : Span) → has_place w ≡ false → put_spans base chars w (s ∷ []) ≡ answer (Err TokensFull) w
  unfolding put_spans
  put_refused w s e = rw (put_spans, e)

  -- a first one, then the others
  pub put_then : (w : Written) (s : Span) (ss : List Span)
      → put_spans base chars w (s ∷ ss) ≡ and_then (put_spans base chars w (s ∷ [])) (λ v. put_spans base chars v ss)
  unfolding put_spans
  put_then w s ss = by (has_place w)
    where
      by : (t : Bool)
          → elim t [ true ↦ put_spans base chars (put w (token_of base chars s)) ss | false ↦ answer (Err TokensFull) w ]
          ≡ and_then (elim t [ true ↦ answer (Ok tt) (put w (token_of base chars s)) | false ↦ answer (Err TokensFull) w ])
          (λ v. put_spans base chars v ss)
      by true = refl
      by false = refl

  -- some, then the others
  pub put_both : (w : Written) (firsts ss : List Span)
      → put_spans base chars w (firsts ++ ss) ≡ and_then (put_spans base chars w firsts) (λ v. put_spans base chars v ss)
  unfolding put_spans
  put_both w [] ss = refl
  put_both w (s ∷ firsts) ss = by (has_place w) (put_both (put w (token_of base chars s)) firsts ss)
    where
      next : Written
      next = put w (token_of base chars s)

      by : (t : Bool) → put_spans base chars next (firsts ++ ss) ≡ and_then (put_spans base chars next firsts) (λ v. put_spans base chars v ss)
          → elim t [ true ↦ put_spans base chars next (firsts ++ ss) | false ↦ answer (Err TokensFull) w ]
          ≡ and_then (elim t [ true ↦ put_spans base chars next firsts | false ↦ answer (Err TokensFull) w ]) (λ v. put_spans base chars v ss)
      by true rest = rest
      by false rest = refl

-- ---- a call that writes the first of the spans that are left

module _ (place : Base) (cs : List ℕ) (w : Written) {total : CutAnswer} {spans : List Span} (come : put_spans place cs w spans ≡ total) where
  -- none is left
  pub all_put : spans ≡ [] → answer (Ok tt) w ≡ total
  all_put none = sym (put_none place cs w) ∙ ap (put_spans place cs w) (sym none) ∙ come

  module _ (firsts rest : List Span) (split : spans ≡ firsts ++ rest) (r : Result ℕ CutError) (after : List ℕ) (put : cut_answer r after ≡ put_spans place cs w firsts) where
    with_rest : and_then (cut_answer r after) (λ v. put_spans place cs v rest) ≡ total
    with_rest =
        ap (λ (a : CutAnswer). and_then a (λ v. put_spans place cs v rest)) put
        ∙ sym (put_both place cs w firsts rest)
        ∙ ap (put_spans place cs w) (sym split)
        ∙ come

    pub stops_there : {e : CutError} → r ≡ Err e → cut_answer (Err e) after ≡ total
    stops_there q = sym (cut_stops after (λ v. put_spans place cs v rest) q) ∙ with_rest

    pub goes_on_there : {count : ℕ} → r ≡ Ok count → put_spans place cs (written count after) rest ≡ total
    goes_on_there q = sym (cut_goes_on after (λ v. put_spans place cs v rest) q) ∙ with_rest
