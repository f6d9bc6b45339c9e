-- What the tokens of a block bring in search is what each of them brings, one after the other. Where no word is held and no connector stands a token brings
-- itself alone; so it is outside the class of `cut`, to which the connectors belong and where nothing is walked.
-- Assumes nothing.
use Prim.Native.Nat.{ℕ, zero, suc, ◌+◌, ◌-◌}
use mathlib.Core.Bool.{Bool, true, false, cond, ◌||◌}
use mathlib.Core.List.{List, [], ◌∷◌, ◌++◌, append_assoc}
use mathlib.Core.Path.{◌≡◌, refl, sym, ap, ◌∙◌}
use native.Mathlib.Omega.{arith}
use lib.Dec.{ltb}
use lib.ListN.{take, drop}
use Rattle.classes.specs.Ranges.{Range, code_point, in_range, in_ranges}
use Rattle.classes.specs.Blocks.{han, ascii_letter_or_digit, cut_sign, cut_class}
use Rattle.classes.specs.Tokens.{connector}
use Rattle.book.specs.Prefixes.{Edge}
use Rattle.cuts.specs.Tokens.{Span, any_of, those, chars_between, parts_of, held_between, stretches, words_of_size, searched, Base, Written}
use Rattle.cuts.specs.Cuts.{and_then, put_spans}
use Rattle.cuts.proofs.Sequence.{put_both}
use Rattle.search.specs.Brought.{brought_by}

module _ (cs : List ℕ) (rows : List (List Edge)) where
  pub no_tokens_lem : searched cs rows [] ≡ []
  unfolding searched
  no_tokens_lem = refl

  -- a first token, then the others
  pub token_then : (s : Span) (ss : List Span) → searched cs rows (s ∷ ss) ≡ brought_by cs rows s ++ searched cs rows ss
  unfolding searched brought_by
  token_then s ss =
      sym
      (append_assoc (parts_of cs s) (words_of_size 2 rows s ++ (words_of_size 3 rows s ++ (s ∷ []))) (searched cs rows ss)
      ∙ ap (λ (l : List Span). parts_of cs s ++ l)
      (append_assoc (words_of_size 2 rows s) (words_of_size 3 rows s ++ (s ∷ [])) (searched cs rows ss)
      ∙ ap (λ (l : List Span). words_of_size 2 rows s ++ l) (append_assoc (words_of_size 3 rows s) (s ∷ []) (searched cs rows ss))))

  -- the same of what is put
  pub put_token_then : (place : Base) (w : Written) (s : Span) (ss : List Span)
      → put_spans place cs w (searched cs rows (s ∷ ss)) ≡ and_then (put_spans place cs w (brought_by cs rows s)) (λ v. put_spans place cs v (searched cs rows ss))
  put_token_then place w s ss = ap (put_spans place cs w) (token_then s ss) ∙ put_both place cs w (brought_by cs rows s) (searched cs rows ss)

-- ---- where no word is held and no connector stands

none_before : {A : Type 0} (test : A → Bool) (k : ℕ) (xs : List A) → any_of test xs ≡ false → any_of test (take k xs) ≡ false
none_before test zero xs e = refl
none_before test (suc k) [] e = refl
none_before test (suc k) (x ∷ xs) e = by (test x) e (none_before test k xs)
  where
    by : (t : Bool) → t || any_of test xs ≡ false → (any_of test xs ≡ false → any_of test (take k xs) ≡ false) → t || any_of test (take k xs) ≡ false
    by true e next = e
    by false e next = next e

none_behind : {A : Type 0} (test : A → Bool) (k : ℕ) (xs : List A) → any_of test xs ≡ false → any_of test (drop k xs) ≡ false
none_behind test zero xs e = e
none_behind test (suc k) [] e = refl
none_behind test (suc k) (x ∷ xs) e = by (test x) e (none_behind test k xs)
  where
    by : (t : Bool) → t || any_of test xs ≡ false → (any_of test xs ≡ false → any_of test (drop k xs) ≡ false) → any_of test (drop k xs) ≡ false
    by true e next = let wrong : ◌≡◌ {A = ℕ} 0 1 = cc e in absurd (omega arith)
    by false e next = next e

-- no stretch is held by no rows
none_held : (size from count : ℕ) → those (held_between []) (stretches size from count) ≡ []
none_held size from zero = refl
none_held size from (suc count) = none_held size (from + 1) count

no_words : (size : ℕ) (s : Span) → words_of_size size [] s ≡ []
unfolding words_of_size
no_words size s = rw (none_held size s.start (s.end - s.start + 1 - size)) (by (ltb size (s.end - s.start)))
  where
    by : (t : Bool) → ◌≡◌ {A = List Span} (cond t [] []) []
    by true = refl
    by false = refl

module _ (cs : List ℕ) (plain : any_of connector cs ≡ false) where
  itself_alone : (s : Span) → brought_by cs [] s ≡ s ∷ []
  unfolding brought_by parts_of
  itself_alone s =
      let none : any_of connector (chars_between cs s) ≡ false =
      none_before connector (s.end - s.start) (drop s.start cs) (none_behind connector s.start cs plain) in
      rw (none, no_words 2 s, no_words 3 s)

  pub nothing_more : (ss : List Span) → searched cs [] ss ≡ ss
  nothing_more [] = no_tokens_lem cs []
  nothing_more (s ∷ ss) = token_then cs [] s ss ∙ rw (itself_alone s, nothing_more ss)

-- ---- outside the class of `cut` no connector stands, since it has all of them

none_left : (a b : Bool) → a || b ≡ false → a ≡ false
none_left true b e = e
none_left false b e = refl

none_right : (a b : Bool) → a || b ≡ false → b ≡ false
none_right true b e = let wrong : ◌≡◌ {A = ℕ} 0 1 = cc e in absurd (omega arith)
none_right false b e = e

neither : (a b : Bool) → a ≡ false → b ≡ false → a || b ≡ false
neither a b e f = rw (e, f)

module _ (c : ℕ) where
  not_first : (k : ℕ) (rs : List Range) → in_ranges (code_point k ∷ rs) c ≡ false → in_range (code_point k) c ≡ false
  unfolding in_ranges
  not_first k rs e = none_left (in_range (code_point k) c) (in_ranges rs c) e

  in_none_after : (k : ℕ) (rs : List Range) → in_ranges (code_point k ∷ rs) c ≡ false → in_ranges rs c ≡ false
  unfolding in_ranges
  in_none_after k rs e = none_right (in_range (code_point k) c) (in_ranges rs c) e

  -- the class has the signs + # & . _ % - in this order, and the connectors are . _ -
  no_connector : cut_class c ≡ false → connector c ≡ false
  unfolding cut_class cut_sign connector in_ranges
  no_connector e =
      let minus = code_point 0x2D ∷ [] in
      let low_line = code_point 0x5F ∷ code_point 0x25 ∷ minus in
      let dot = code_point 0x2E ∷ low_line in
      let signs : in_ranges (code_point 0x2B ∷ code_point 0x23 ∷ code_point 0x26 ∷ dot) c ≡ false = none_right (han c || ascii_letter_or_digit c) (cut_sign c) e in
      let from_dot : in_ranges dot c ≡ false = in_none_after 0x26 dot
      (in_none_after 0x23 (code_point 0x26 ∷ dot) (in_none_after 0x2B (code_point 0x23 ∷ code_point 0x26 ∷ dot) signs)) in
      let from_low_line : in_ranges low_line c ≡ false = in_none_after 0x2E low_line from_dot in
      let from_minus : in_ranges minus c ≡ false = in_none_after 0x25 minus (in_none_after 0x5F (code_point 0x25 ∷ minus) from_low_line) in
      neither (in_range (code_point 0x2E) c) (in_ranges (code_point 0x5F ∷ minus) c) (not_first 0x2E low_line from_dot)
      (neither (in_range (code_point 0x5F) c) (in_ranges minus c) (not_first 0x5F (code_point 0x25 ∷ minus) from_low_line) from_minus)

no_connectors : (cs : List ℕ) → any_of cut_class cs ≡ false → any_of connector cs ≡ false
no_connectors [] e = refl
no_connectors (c ∷ cs) e =
    neither (connector c) (any_of connector cs) (no_connector c (none_left (cut_class c) (any_of cut_class cs) e))
    (no_connectors cs (none_right (cut_class c) (any_of cut_class cs) e))

-- so the tokens of a block outside the class bring themselves alone
pub outside_class : (cs : List ℕ) → any_of cut_class cs ≡ false → (ss : List Span) → searched cs [] ss ≡ ss
outside_class cs e = nothing_more cs (no_connectors cs e)
