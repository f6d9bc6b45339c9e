-- The tests before a cut, in document 01's order: what `cut_with` is where the tests before have passed, whatever is cut then; and what a caller learns
-- from the outcome of the tests alone, where nothing is cut after them.
-- Assumes nothing.
use mathlib.Core.Path.{◌≡◌, refl, sym, ap, ◌∙◌}
use mathlib.Core.Bool.{Bool, true, false, cond, ◌&&◌, false≢true}
use mathlib.Core.List.{List, [], ◌∷◌}
use mathlib.Core.Option.{Option, none, some}
use Prim.Native.Nat.{ℕ, ◌+◌, ◌%◌, ◌≤◌, ◌<◌}
use native.Mathlib.Omega.{arith}
use borrow.Author.Tests.{ltb-true, ltb-false, leb-true, eqb-true, le-leb, lt-leb, lt-ltb, le-ltb, eq-eqb, ne_eqb}
use lib.Dec.{eqb, leb, ltb}
use lib.ListN.{length}
use Rattle.std.specs.Prelude.{Ok, Err}
use Rattle.utf8.specs.Text.{chars_of, count_of}
use Rattle.book.specs.declared.Refusal.TheVariants.{BadAreas, TooLong, Malformed, Damaged, WorkTooShort}
use Rattle.book.specs.Returns.{is_done, longest_text, Outcome}
use Rattle.cuts.specs.Tokens.{Written, written, token_width}
use Rattle.cuts.specs.Slices.{shorter, shortest}
use Rattle.cuts.specs.Cuts.{CutAnswer, answer, Tested, cut_chars, cut_with, begins}

-- ---- the tests, one after the other

module _ (t : Tested) (work : ℕ) (area sentence : List ℕ) (cutting : List ℕ → Written → CutAnswer) where
  pub sizes_refused : t.sizes ≡ false → answer (Err BadAreas) (written 0 area) ≡ cut_with t work area cutting sentence
  unfolding cut_with
  sizes_refused s = rw s

  module _ (s : t.sizes ≡ true) where
    pub tokens_refused : (length area % token_width ≡ 0 → ⊥) → answer (Err BadAreas) (written 0 area) ≡ cut_with t work area cutting sentence
    unfolding cut_with
    tokens_refused w = rw (s, ne_eqb (length area % token_width) 0 w)

    module _ (w : length area % token_width ≡ 0) where
      pub too_long : longest_text < length sentence → answer (Err TooLong) (written 0 area) ≡ cut_with t work area cutting sentence
      unfolding cut_with
      too_long l = rw (s, eq-eqb (length area % token_width) 0 w, lt-leb (length sentence) longest_text l)

      module _ (l : length sentence ≤ longest_text) where
        by_chars : cut_with t work area cutting sentence ≡ cut_chars t work cutting (written 0 area) (chars_of sentence)
        unfolding cut_with
        by_chars = rw (s, eq-eqb (length area % token_width) 0 w, le-leb (length sentence) longest_text l)

        pub malformed : Err (record {}) ≡ count_of (chars_of sentence) → answer (Err Malformed) (written 0 area) ≡ cut_with t work area cutting sentence
        malformed e = sym (by_chars ∙ go (chars_of sentence) e)
          where
            go : (o : Option (List ℕ)) → Err (record {}) ≡ count_of o → cut_chars t work cutting (written 0 area) o ≡ answer (Err Malformed) (written 0 area)
            go none e = refl
            go (some cs) e = let z : ◌≡◌ {A = ℕ} 0 1 = cc in absurd (omega arith)

        module _ (n : ℕ) (e : Ok n ≡ count_of (chars_of sentence)) where
          pub work_too_short : work ≤ n → answer (Err WorkTooShort) (written 0 area) ≡ cut_with t work area cutting sentence
          work_too_short h = sym (by_chars ∙ go (chars_of sentence) e)
            where
              go : (o : Option (List ℕ)) → Ok n ≡ count_of o → cut_chars t work cutting (written 0 area) o ≡ answer (Err WorkTooShort) (written 0 area)
              go none e = let z : ◌≡◌ {A = ℕ} 0 1 = cc in absurd (omega arith)
              go (some cs) e = let y : n ≡ length cs = cc in rw (lt-ltb work (length cs + 1) (omega arith))

          module _ (h : n < work) where
            head_by : (o : Option (List ℕ)) → Ok n ≡ count_of o → t.damage ≡ true
                → cut_chars t work cutting (written 0 area) o ≡ answer (Err Damaged) (written 0 area)
            head_by none e d = let z : ◌≡◌ {A = ℕ} 0 1 = cc in absurd (omega arith)
            head_by (some cs) e d = let y : n ≡ length cs = cc in rw (le-ltb work (length cs + 1) (omega arith), d)

            pub head_damaged_lem : t.damage ≡ true → answer (Err Damaged) (written 0 area) ≡ cut_with t work area cutting sentence
            head_damaged_lem d = sym (by_chars ∙ head_by (chars_of sentence) e d)

module _ (t : Tested) (work : ℕ) (area sentence : List ℕ) where
  -- nothing is refused, and nothing is cut after the tests
  pub none_refused : t.sizes ≡ true → length area % token_width ≡ 0 → length sentence ≤ longest_text → (n : ℕ) → Ok n ≡ count_of (chars_of sentence)
      → n < work → t.damage ≡ false
      → answer (Ok tt) (written 0 area) ≡ cut_with t work area (λ cs. answer (Ok tt)) sentence
  none_refused s w l n e h d = sym (by_chars t work area sentence (λ cs. answer (Ok tt)) s w l ∙ go (chars_of sentence) e)
    where
      go : (o : Option (List ℕ)) → Ok n ≡ count_of o → cut_chars t work (λ cs. answer (Ok tt)) (written 0 area) o ≡ answer (Ok tt) (written 0 area)
      go none e = let z : ◌≡◌ {A = ℕ} 0 1 = cc in absurd (omega arith)
      go (some cs) e = let y : n ≡ length cs = cc in rw (le-ltb work (length cs + 1) (omega arith), d)

-- ---- what the tests' outcome says of every cut

-- a cut that begins: what its tests have found, and that it is then what is cut of the sentence's characters
pub record Begun (t : Tested) (work : ℕ) (area sentence : List ℕ) : Type 0 where
  pub chars : List ℕ
  pub read : chars_of sentence ≡ some chars
  pub room : length chars < work
  pub short : length sentence ≤ longest_text
  pub sizes : t.sizes ≡ true
  pub undamaged : t.damage ≡ false
  pub cut : (cutting : List ℕ → Written → CutAnswer) → cut_with t work area cutting sentence ≡ cutting chars (written 0 area)

-- of two answers that are the same, both are done or neither is
alike : (o r : Outcome) (w v : Written) → answer o w ≡ answer r v → is_done o ≡ is_done r
alike o r w v e = ap (λ (a : CutAnswer). is_done a.outcome) e

module _ (t : Tested) (work : ℕ) (area sentence : List ℕ) (o : Outcome)
    (tests : answer o (written 0 area) ≡ cut_with t work area (λ cs. answer (Ok tt)) sentence) where
  -- a refusal by the tests is every cut's
  pub refused : is_done o ≡ false → (cutting : List ℕ → Written → CutAnswer) → answer o (written 0 area) ≡ cut_with t work area cutting sentence
  unfolding cut_with
  refused other cutting = by_sizes (t.sizes && eqb (length area % token_width) 0) tests
    where
      by_damage : (d : Bool) (cs : List ℕ) → answer o (written 0 area) ≡ cond d (answer (Err Damaged) (written 0 area)) (answer (Ok tt) (written 0 area))
          → answer o (written 0 area) ≡ cond d (answer (Err Damaged) (written 0 area)) (cutting cs (written 0 area))
      by_damage true cs e = e
      by_damage false cs e = absurd (false≢true (sym other ∙ alike o (Ok tt) _ _ e))

      by_work : (s : Bool) (cs : List ℕ)
          → answer o (written 0 area) ≡ cond s (answer (Err WorkTooShort) (written 0 area))
          (cond t.damage (answer (Err Damaged) (written 0 area)) (answer (Ok tt) (written 0 area)))
          → answer o (written 0 area) ≡ cond s (answer (Err WorkTooShort) (written 0 area))
          (cond t.damage (answer (Err Damaged) (written 0 area)) (cutting cs (written 0 area)))
      by_work true cs e = e
      by_work false cs e = by_damage t.damage cs e

      by_chars_read : (cs : Option (List ℕ)) → answer o (written 0 area) ≡ cut_chars t work (λ cs. answer (Ok tt)) (written 0 area) cs
          → answer o (written 0 area) ≡ cut_chars t work cutting (written 0 area) cs
      by_chars_read none e = e
      by_chars_read (some cs) e = by_work (ltb work (length cs + 1)) cs e

      by_length : (l : Bool) → answer o (written 0 area)
          ≡ cond l (cut_chars t work (λ cs. answer (Ok tt)) (written 0 area) (chars_of sentence)) (answer (Err TooLong) (written 0 area))
          → answer o (written 0 area) ≡ cond l (cut_chars t work cutting (written 0 area) (chars_of sentence)) (answer (Err TooLong) (written 0 area))
      by_length true e = by_chars_read (chars_of sentence) e
      by_length false e = e

      by_sizes : (z : Bool)
          → answer o (written 0 area)
          ≡ cond z (cond (leb (length sentence) longest_text) (cut_chars t work (λ cs. answer (Ok tt)) (written 0 area) (chars_of sentence))
          (answer (Err TooLong) (written 0 area))) (answer (Err BadAreas) (written 0 area))
          → answer o (written 0 area)
          ≡ cond z (cond (leb (length sentence) longest_text) (cut_chars t work cutting (written 0 area) (chars_of sentence))
          (answer (Err TooLong) (written 0 area))) (answer (Err BadAreas) (written 0 area))
      by_sizes true e = by_length (leb (length sentence) longest_text) e
      by_sizes false e = e

  -- where they are done, the cut begins
  pub begun : is_done o ≡ true → Begun t work area sentence
  unfolding cut_with
  begun done = by_sizes t.sizes refl tests
    where
      not_done : (r : Outcome) → is_done r ≡ false → answer o (written 0 area) ≡ answer r (written 0 area) → ⊥
      not_done r other e = false≢true (sym other ∙ sym (alike o r _ _ e) ∙ done)

      by_chars_read : (s : t.sizes ≡ true) (w : length area % token_width ≡ 0) (l : length sentence ≤ longest_text) (cs : Option (List ℕ))
          → chars_of sentence ≡ cs
          → answer o (written 0 area) ≡ cut_chars t work (λ cs. answer (Ok tt)) (written 0 area) cs → Begun t work area sentence
      by_chars_read s w l none read e = absurd (not_done (Err Malformed) refl e)
      by_chars_read s w l (some cs) read e = by_work (ltb work (length cs + 1)) refl e
        where
          by_damage : (d : Bool) → t.damage ≡ d → ltb work (length cs + 1) ≡ false
              → answer o (written 0 area) ≡ cond d (answer (Err Damaged) (written 0 area)) (answer (Ok tt) (written 0 area)) → Begun t work area sentence
          by_damage true d h e = absurd (not_done (Err Damaged) refl e)
          by_damage false d h e = record {
            chars = cs;
            read = read;
            room = let b = ltb-false work (length cs + 1) h in omega arith;
            short = l;
            sizes = s;
            undamaged = d;
            cut = λ cutting. by_chars t work area sentence cutting s w l ∙ ap (cut_chars t work cutting (written 0 area)) read ∙ rw (h, d);
          }

          by_work : (z : Bool) → ltb work (length cs + 1) ≡ z
              → answer o (written 0 area) ≡ cond z (answer (Err WorkTooShort) (written 0 area))
              (cond t.damage (answer (Err Damaged) (written 0 area)) (answer (Ok tt) (written 0 area)))
              → Begun t work area sentence
          by_work true h e = absurd (not_done (Err WorkTooShort) refl e)
          by_work false h e = by_damage t.damage refl h e

      by_length : (s : t.sizes ≡ true) (w : length area % token_width ≡ 0) (z : Bool) → leb (length sentence) longest_text ≡ z
          → answer o (written 0 area) ≡ cond z (cut_chars t work (λ cs. answer (Ok tt)) (written 0 area) (chars_of sentence))
          (answer (Err TooLong) (written 0 area)) → Begun t work area sentence
      by_length s w true l e = by_chars_read s w (leb-true (length sentence) longest_text l) (chars_of sentence) refl e
      by_length s w false l e = absurd (not_done (Err TooLong) refl e)

      by_tokens : (s : t.sizes ≡ true) (z : Bool) → eqb (length area % token_width) 0 ≡ z
          → answer o (written 0 area)
          ≡ cond z (cond (leb (length sentence) longest_text) (cut_chars t work (λ cs. answer (Ok tt)) (written 0 area) (chars_of sentence))
          (answer (Err TooLong) (written 0 area))) (answer (Err BadAreas) (written 0 area))
          → Begun t work area sentence
      by_tokens s true w e = by_length s (eqb-true (length area % token_width) 0 w) (leb (length sentence) longest_text) refl e
      by_tokens s false w e = absurd (not_done (Err BadAreas) refl e)

      by_sizes : (z : Bool) → t.sizes ≡ z
          → answer o (written 0 area)
          ≡ cond (z && eqb (length area % token_width) 0)
          (cond (leb (length sentence) longest_text) (cut_chars t work (λ cs. answer (Ok tt)) (written 0 area) (chars_of sentence))
          (answer (Err TooLong) (written 0 area))) (answer (Err BadAreas) (written 0 area))
          → Begun t work area sentence
      by_sizes true s e = by_tokens s (eqb (length area % token_width) 0) refl e
      by_sizes false s e = absurd (not_done (Err BadAreas) refl e)

  -- and then it is not so that cutting does not begin
  pub has_begun : is_done o ≡ true → begins t work area sentence ≡ false → ⊥
  has_begun done none_begun = false≢true (sym none_begun ∙ sym (ap (λ (a : CutAnswer). is_done a.outcome) tests) ∙ done)

-- ---- the length of an area of several slices

-- by the test that the code makes
pub second_is_shorter : (a b : ℕ) → b < a → b ≡ shorter a b
second_is_shorter a b h = rw (lt-ltb b a h)

pub first_is_shorter : (a b : ℕ) → a ≤ b → a ≡ shorter a b
first_is_shorter a b h = rw (le-ltb b a h)

-- slice by slice
pub shortest_found : (a b c d e f v w x y z : ℕ) → v ≡ shorter a b → w ≡ shorter v c → x ≡ shorter w d → y ≡ shorter x e → z ≡ shorter y f
    → z ≡ shortest a (b ∷ c ∷ d ∷ e ∷ f ∷ [])
shortest_found a b c d e f v w x y z ev ew ex ey ez = rw (ez, ey, ex, ew, ev) refl

pub shorter_first_lem : (a b : ℕ) → shorter a b ≤ a
shorter_first_lem a b = by (ltb b a) refl
  where
    by : (t : Bool) → ltb b a ≡ t → cond t b a ≤ a
    by true h = let l = ltb-true b a h in omega arith
    by false h = omega arith

pub shorter_second : (a b : ℕ) → shorter a b ≤ b
shorter_second a b = by (ltb b a) refl
  where
    by : (t : Bool) → ltb b a ≡ t → cond t b a ≤ b
    by true h = omega arith
    by false h = ltb-false b a h
