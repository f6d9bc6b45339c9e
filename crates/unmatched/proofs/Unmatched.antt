-- A block outside the class: the spans that are left from each position on, of `cut_unmatched` and of `cut_all_unmatched`, and where the first of them ends.
-- The block is the first n characters of a slice.
-- Assumes nothing.
use Prim.Native.Nat.{ℕ, ◌+◌, ◌≤◌, ◌<◌}
use mathlib.Core.Bool.{Bool, true, false, ◌&&◌}
use mathlib.Core.List.{List, [], ◌∷◌}
use mathlib.Core.Path.{◌≡◌, refl, sym, ap, ◌∙◌}
use native.Mathlib.Numerals.{add-one}
use native.Mathlib.Omega.{arith}
use borrow.Author.Tests.{eq-eqb, ne_eqb}
use lib.Dec.{eqb}
use lib.ListN.{length, get_or, take, drop, drop_of_length-le}
use lib.Seq.{length-take-le, drop-cons, get_or-take}
use Rattle.classes.specs.Tokens.{joins}
use Rattle.score.proofs.Tests.{by_leb}
use Rattle.cuts.specs.Tokens.{Span, span, joined, singly, each, runs_of}
use Rattle.tokens.specs.Runs.{MaximalRun}
use Rattle.unmatched.proofs.Joining.{joins_at}
use Rattle.tokens.proofs.Runs.{Steps, no_spans, single, run}
use Rattle.tokens.proofs.Turns.{Turn}

-- the characters from a position on: that position's, and those after it
from_next : (cs : List ℕ) (x : ℕ) → x < length cs → drop x cs ≡ get_or cs x 0 ∷ drop (x + 1) cs
from_next cs x h = drop-cons cs x 0 h ∙ rw (add-one x)

-- ---- each character singly, CR LF as one

unfoldable pub singly_from : List ℕ → ℕ → List Span
singly_from cs x = singly x (drop x cs)

pub all_singly : (cs : List ℕ) → singly_from cs 0 ≡ singly 0 cs
unfolding singly_from
all_singly cs = refl

none_singly : (cs : List ℕ) (x : ℕ) → length cs ≤ x → singly_from cs x ≡ []
unfolding singly_from singly
none_singly cs x h = ap (singly x) (drop_of_length-le cs h)

-- the two cases where there are two characters or more
module _ (at c d : ℕ) (cs : List ℕ) where
  singly_pair : eqb c 13 && eqb d 10 ≡ true → singly at (c ∷ d ∷ cs) ≡ span at (at + 2) ∷ singly (at + 2) cs
  unfolding singly
  singly_pair e = ap (λ (t : Bool). elim t as (λ _. List Span)
      [ true ↦ span at (at + 2) ∷ singly (at + 2) cs | false ↦ span at (at + 1) ∷ singly (at + 1) (d ∷ cs) ]) e

  singly_other : eqb c 13 && eqb d 10 ≡ false → singly at (c ∷ d ∷ cs) ≡ span at (at + 1) ∷ singly (at + 1) (d ∷ cs)
  unfolding singly
  singly_other e = ap (λ (t : Bool). elim t as (λ _. List Span)
      [ true ↦ span at (at + 2) ∷ singly (at + 2) cs | false ↦ span at (at + 1) ∷ singly (at + 1) (d ∷ cs) ]) e

-- CR and LF are next to each other at a position
abbrev line_end_at : List ℕ → ℕ → Bool
line_end_at cs x = eqb (get_or cs x 0) 13 && eqb (get_or cs (x + 1) 0) 10

module _ (cs : List ℕ) (x : ℕ) where
  from_two : x + 1 < length cs → drop x cs ≡ get_or cs x 0 ∷ get_or cs (x + 1) 0 ∷ drop (x + 1 + 1) cs
  from_two h = from_next cs x (omega arith) ∙ ap (λ (l : List ℕ). get_or cs x 0 ∷ l) (from_next cs (x + 1) h)

  both : x + 1 < length cs → line_end_at cs x ≡ true → singly_from cs x ≡ span x (x + 1 + 1) ∷ singly_from cs (x + 1 + 1)
  unfolding singly_from
  both h e = let two : x + 2 ≡ x + 1 + 1 = omega arith in ap (singly x) (from_two h) ∙ singly_pair x _ _ _ e ∙ rw two

  one_of_more : x + 1 < length cs → line_end_at cs x ≡ false → singly_from cs x ≡ span x (x + 1) ∷ singly_from cs (x + 1)
  unfolding singly_from
  one_of_more h e =
      ap (singly x) (from_two h)
      ∙ singly_other x _ _ _ e
      ∙ ap (λ (rest : List ℕ). span x (x + 1) ∷ singly (x + 1) rest) (sym (from_next cs (x + 1) h))

  last_one : x < length cs → length cs ≤ x + 1 → singly_from cs x ≡ span x (x + 1) ∷ singly_from cs (x + 1)
  unfolding singly_from singly
  last_one h l =
      let ended : drop (x + 1) cs ≡ [] = drop_of_length-le cs l in
      ap (singly x) (from_next cs x h ∙ ap (λ (rest : List ℕ). get_or cs x 0 ∷ rest) ended) ∙ rw ended

  one : x < length cs → (x + 1 < length cs → line_end_at cs x ≡ false) → singly_from cs x ≡ span x (x + 1) ∷ singly_from cs (x + 1)
  one h e =
      by_leb (length cs) (x + 1) (λ (t : Bool). singly_from cs x ≡ span x (x + 1) ∷ singly_from cs (x + 1))
      (λ l. last_one h l)
      (λ m. one_of_more m (e m))

module _ (chars : List ℕ) (n : ℕ) (long : n ≤ length chars) where
  block_long : length (take n chars) ≡ n
  block_long = length-take-le n chars long

  pub singly_end : (x : ℕ) → n ≤ x → singly_from (take n chars) x ≡ []
  singly_end x h = none_singly (take n chars) x (omega (arith, block_long))

  module _ (x : ℕ) (h : x < n) where
    -- the block's characters are the slice's
    here : get_or (take n chars) x 0 ≡ get_or chars x 0
    here = get_or-take n chars x 0 h

    after : x + 1 < n → get_or (take n chars) (x + 1) 0 ≡ get_or chars (x + 1) 0
    after m = get_or-take n chars (x + 1) 0 m

    alone : (x + 1 < n → line_end_at (take n chars) x ≡ false) → Turn n (singly_from (take n chars)) x (x + 1)
    alone e = record {
      forward = omega arith;
      inside = omega arith;
      first =
          one (take n chars) x (omega (arith, block_long)) (λ m. e (omega (arith, block_long)));
    }

    pub cr_lf : get_or chars x 0 ≡ 13 → x + 1 < n → get_or chars (x + 1) 0 ≡ 10 → Turn n (singly_from (take n chars)) x (x + 1 + 1)
    cr_lf cr m lf =
        record {
          forward = omega arith;
          inside = omega arith;
          first = both (take n chars) x (omega (arith, block_long)) (rw (eq-eqb _ _ (here ∙ cr), eq-eqb _ _ (after m ∙ lf)));
        }

    pub no_lf : get_or chars x 0 ≡ 13 → x + 1 < n → (get_or chars (x + 1) 0 ≡ 10 → ⊥) → Turn n (singly_from (take n chars)) x (x + 1)
    no_lf cr m other = alone (λ l. rw (eq-eqb _ _ (here ∙ cr), ne_eqb _ _ (λ e. other (sym (after m) ∙ e))))

    pub cr_at_end : n ≤ x + 1 → Turn n (singly_from (take n chars)) x (x + 1)
    cr_at_end l = alone (λ m. absurd (omega arith))

    pub no_cr : (get_or chars x 0 ≡ 13 → ⊥) → Turn n (singly_from (take n chars)) x (x + 1)
    no_cr other = alone (λ m. rw (ne_eqb _ _ (λ e. other (sym here ∙ e))))

-- ---- maximal runs of characters that join

-- whether a span's first character joins
abbrev joins_in : List ℕ → Span → Bool
joins_in cs s = joins (get_or cs s.start 0)

unfoldable pub runs_from : List ℕ → ℕ → List Span
runs_from cs x = joined (joins_in cs) (each x (drop x cs))

pub all_runs : (cs : List ℕ) → runs_from cs 0 ≡ runs_of cs
unfolding runs_from runs_of
all_runs cs = refl

module _ (chars : List ℕ) (n : ℕ) (long : n ≤ length chars) where
  characters : Steps n (joins_in (take n chars)) (λ x. each x (drop x (take n chars))) (λ x. x + 1) (joins_at chars)
  characters =
      record {
        none = λ x h. ap (each x) (drop_of_length-le (take n chars) {i = x} (omega (arith, length-take-le n chars long)));
        next = λ x h. ap (each x) (from_next (take n chars) x (omega (arith, length-take-le n chars long)));
        joins = λ x h. ap joins (get_or-take n chars x 0 h);
        by_one = λ x h e. refl;
      }

  pub runs_end : (x : ℕ) → n ≤ x → runs_from (take n chars) x ≡ []
  unfolding runs_from
  runs_end x h = no_spans characters x h

  module _ (x : ℕ) (h : x < n) where
    pub joining_characters : (to : ℕ) → joins_at chars x ≡ true → MaximalRun (joins_at chars) n (x + 1) to → Turn n (runs_from (take n chars)) x to
    unfolding runs_from
    joining_characters to e maximal = record { forward = omega (arith, maximal.forward); inside = maximal.inside; first = run characters x to h e maximal }

    pub other_character : joins_at chars x ≡ false → Turn n (runs_from (take n chars)) x (x + 1)
    unfolding runs_from
    other_character e = record { forward = omega arith; inside = omega arith; first = single characters x h e }
