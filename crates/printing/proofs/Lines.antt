-- An answer's line, piece by piece: what is written first and what is written after it. Assumes nothing.
use Prim.Native.Nat.{ℕ, zero, suc, ◌+◌, ◌-◌, ◌*◌, ◌/◌, ◌%◌, ◌≤◌, ◌<◌}
use mathlib.Core.List.{List, [], ◌∷◌, ◌++◌}
use mathlib.Core.Path.{◌≡◌, refl, sym, ap, subst, ◌∙◌}
use native.Mathlib.Numerals.{add-one}
use native.Mathlib.Omega.{arith}
use lib.ListN.{length, get_or, set, drop, length-append, length-set}
use lib.Seq.{sets, length-sets, drop-cons, drop-length}
use Rattle.std.proofs.Common.{◌≢◌}
use Rattle.std.proofs.lemmas.List.{set_comm}
use Rattle.printing.specs.Answers.{digit_of, digits, two, four, fours, line_end, line_of, Put}

-- ---- one thing after another

sets_append : (out : List ℕ) (at : ℕ) (xs ys : List ℕ) → sets (sets out at xs) (at + length xs) ys ≡ sets out at (xs ++ ys)
sets_append out at [] ys = ap (λ (k : ℕ). sets out k ys) (omega arith)
sets_append out at (x ∷ xs) ys =
    let next : at + suc (length xs) ≡ suc at + length xs = omega arith in
    rw next (sets_append (set out at x) (suc at) xs ys)

-- what is written after something
pub after : (out xs out' ys : List ℕ) (at at' : ℕ) → out' ≡ sets out at xs → at' ≡ at + length xs → sets out' at' ys ≡ sets out at (xs ++ ys)
after out xs out' ys at at' e place = rw (e, place) (sets_append out at xs ys)

-- ---- digits

pub length_digits : (k n : ℕ) → length (digits k n) ≡ k
unfolding digits
length_digits zero n = refl
length_digits (suc k) n = rw (length-append (digits k (n / 16)) (digit_of (n % 16) ∷ []), length_digits k (n / 16)) (omega arith)

-- the last of what is written may be written first
sets_last : (out : List ℕ) (at : ℕ) (xs : List ℕ) (d i : ℕ) → i ≡ at + length xs → sets (set out i d) at xs ≡ sets out at (xs ++ (d ∷ []))
sets_last out at [] d i e = let same : i ≡ at = omega arith in rw same
sets_last out at (x ∷ xs) d i e =
    let apart : i ≢ at = omega arith in
    rw (set_comm out i at d x apart) (sets_last (set out at x) (suc at) xs d i (omega arith))

-- what `put_digits` has written, from the last digit on, with the digits that are left makes the whole
pub record Filling (before : List ℕ) (at width n : ℕ) (out : List ℕ) (i rest : ℕ) : Type 0 where
  pub whole : sets out at (digits i rest) ≡ sets before at (digits width n)
  pub long : length out ≡ length before

module _ (before : List ℕ) (at width n : ℕ) (out : List ℕ) (i rest : ℕ) where
  pub digit_put : Filling before at width n out i rest → 0 < i → (d : ℕ) → d ≡ digit_of (rest % 16)
      → Filling before at width n (set out (at + (i - 1)) d) (i - 1) (rest / 16)
  unfolding digits
  digit_put so_far some_left d is = record {
    whole =
        let k : i ≡ suc (i - 1) = omega arith in
        let long = length_digits (i - 1) (rest / 16) in
        sets_last out at (digits (i - 1) (rest / 16)) d (at + (i - 1)) (omega arith)
        ∙ rw is (subst (λ (j : ℕ). sets out at (digits j rest) ≡ sets before at (digits width n)) k so_far.whole);
    long = length-set out (at + (i - 1)) d ∙ so_far.long;
  }

  pub digits_put : Filling before at width n out i rest → i ≤ 0 → out ≡ sets before at (digits width n)
  unfolding digits
  digits_put so_far end = let none : i ≡ 0 = omega arith in rw none at so_far.whole

pub fours_length : (numbers : List ℕ) → length (fours numbers) ≡ 4 * length numbers
unfolding fours
fours_length [] = refl
fours_length (n ∷ numbers) = rw (length-append (four n) (fours numbers), length_digits 4 n) (omega (arith, fours_length numbers))

-- ---- the loop of `put_fours`: what is written, with what is left of the numbers, makes the whole

pub record Putting (numbers before : List ℕ) (from : ℕ) (out : List ℕ) (at i : ℕ) : Type 0 where
  pub whole : sets out at (fours (drop i numbers)) ≡ sets before from (fours numbers)
  pub place : at ≡ from + 4 * i
  pub long : length out ≡ length before

one_number : (numbers out : List ℕ) (at i n : ℕ) → n ≡ get_or numbers i 0 → i < length numbers
    → sets (sets out at (four n)) (at + 4) (fours (drop (i + 1) numbers)) ≡ sets out at (fours (drop i numbers))
unfolding fours
one_number numbers out at i n e inside =
    rw (add-one, drop-cons numbers i 0 inside, ← e)
    (after out (four n) (sets out at (four n)) (fours (drop (suc i) numbers)) at (at + 4) refl (omega (arith, length_digits 4 n)))

module _ (numbers before out : List ℕ) (from at i : ℕ) (so_far : Putting numbers before from out at i) where
  pub one_more : (n : ℕ) (after : List ℕ) → i < length numbers → n ≡ get_or numbers i 0 → after ≡ sets out at (four n)
      → Putting numbers before from after (at + 4) (i + 1)
  one_more n after inside e put = record {
    whole = rw (put, one_number numbers out at i n e inside) so_far.whole;
    place = omega (arith, so_far.place);
    long = rw (put, length-sets out at (four n)) so_far.long;
  }

  pub all_put : length numbers ≤ i → i ≤ length numbers → Put before from (fours numbers) out at
  unfolding fours
  all_put end within =
      let is_end : i ≡ length numbers = omega arith in
      record {
        area = ap (λ (rest : List ℕ). sets out at (fours rest)) (sym (ap (λ (k : ℕ). drop k numbers) is_end ∙ drop-length numbers)) ∙ so_far.whole;
        ends = omega (arith, so_far.place, fours_length numbers);
      }

-- ---- a whole line

-- number, count, numbers and the line's end
pub line_put : (out : List ℕ) (at n count : ℕ) (numbers one more most : List ℕ) (end : ℕ)
    → one ≡ sets out at (two n) → more ≡ sets one (at + 2) (four count) → Put more (at + 6) (fours numbers) most end
    → Put out at (line_of n count numbers) (set most end line_end) (end + 1)
unfolding line_of
line_put out at n count numbers one more most end first second third = record {
  area =
      after more (fours numbers) most (line_end ∷ []) (at + 6) end third.area third.ends
      ∙ after one (four count) more (fours numbers ++ (line_end ∷ [])) (at + 2) (at + 6) second (omega (arith, length_digits 4 count))
      ∙ after out (two n) one (four count ++ (fours numbers ++ (line_end ∷ []))) at (at + 2) first (omega (arith, length_digits 2 n));
  ends = omega (
    arith,
    third.ends,
    length_digits 2 n,
    length_digits 4 count,
    length-append (two n) (four count ++ (fours numbers ++ (line_end ∷ []))),
    length-append (four count) (fours numbers ++ (line_end ∷ [])),
    length-append (fours numbers) (line_end ∷ []),
  );
}
