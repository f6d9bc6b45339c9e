-- Digits one after the other, as the code reads them.
-- The number so far and the digits to come make the number; a number above the greatest stays above it, whatever digits follow.
-- Assumes nothing.
use mathlib.Core.Path.{◌≡◌, refl, sym, ap, ◌∙◌}
use mathlib.Core.Bool.{Bool, true, false, cond, ◌&&◌}
use mathlib.Core.List.{List, [], ◌∷◌}
use Prim.Native.Nat.{ℕ, ◌+◌, ◌-◌, ◌*◌, ◌<◌, ◌≤◌}
use native.Mathlib.Numerals.{add-one}
use native.Mathlib.Omega.{arith}
use borrow.Author.Tests.{le-leb, lt-leb}
use lib.Dec.{leb, eqb}
use lib.Pointwise.{pointwise}
use lib.ListN.{length, get_or, take, drop, drop_of_length-le}
use lib.Seq.{drop-cons}
use Rattle.std.specs.Prelude.{Result, Ok, Err}
use Rattle.std.specs.Char.{is_ascii_digit}
use Rattle.lines.specs.declared.BadFrequency.{BadFrequency}
use Rattle.lines.specs.Lines.{digits, decimal, greatest, number, frequency_of}

-- the frequency of the digits to come, after n
abbrev number_on : ℕ → List ℕ → Result ℕ BadFrequency
number_on n cs = cond (digits cs && leb (decimal n cs) greatest) (Ok (decimal n cs)) (Err (record {}))

-- digits only add
grows : (n : ℕ) (cs : List ℕ) → n ≤ decimal n cs
grows n [] = omega arith
grows n (c ∷ cs) = let h = grows (n * 10 + (c - 0x30)) cs in omega arith

neither : (x : Bool) (a b : Result ℕ BadFrequency) → cond (x && false) a b ≡ b
neither true a b = refl
neither false a b = refl

too_large : (n : ℕ) (cs : List ℕ) → greatest < n → number_on n cs ≡ Err (record {})
too_large n cs h = rw (lt-leb (decimal n cs) greatest (omega (arith, grows n cs))) (neither (digits cs) _ _)

-- the same from a position on
unfoldable pub number_from : List ℕ → ℕ → ℕ → Result ℕ BadFrequency
number_from s at n = number_on n (drop at s)

module _ (s : List ℕ) (at n : ℕ) where
  module _ (h : at < length s) where
    here : number_from s at n ≡ number_on n (get_or s at 0 ∷ drop (at + 1) s)
    unfolding number_from
    here =
        let rest : drop at s ≡ get_or s at 0 ∷ drop (at + 1) s = drop-cons s at 0 h ∙ rw (add-one at) in
        ap (number_on n) rest

    pub no_digit : is_ascii_digit (get_or s at 0) ≡ false → number_from s at n ≡ Err (record {})
    no_digit f = here ∙ rw f

    module _ (f : is_ascii_digit (get_or s at 0) ≡ true) where
      pub next : number_from s (at + 1) (n * 10 + (get_or s at 0 - 0x30)) ≡ number_from s at n
      unfolding number_from
      next = sym (here ∙ rw f)

      pub over : greatest < n * 10 + (get_or s at 0 - 0x30) → number_from s at n ≡ Err (record {})
      unfolding number_from
      over g = sym next ∙ too_large (n * 10 + (get_or s at 0 - 0x30)) (drop (at + 1) s) g

  pub done : length s ≤ at → n ≤ greatest → number_from s at n ≡ Ok n
  unfolding number_from
  done h l = ap (number_on n) (drop_of_length-le s h) ∙ rw (le-leb n greatest l)

pub some_left : (s : List ℕ) → 0 < length s → number_from s 0 0 ≡ number s
unfolding number_from number
some_left [] h = absurd (omega arith)
some_left (c ∷ cs) h = refl

pub none_left : (s : List ℕ) → length s ≡ 0 → Err (record {}) ≡ number s
unfolding number
none_left [] h = refl
none_left (c ∷ cs) h = absurd (omega arith)

-- the sign: what begins with it, and what does not
abbrev plus : List ℕ → Bool
plus s = pointwise eqb (take 1 s) (0x2B ∷ [])

pub signed : (s : List ℕ) → plus s ≡ true → number (drop 1 s) ≡ frequency_of s
unfolding frequency_of
signed [] e = let z : ◌≡◌ {A = ℕ} 0 1 = cc in absurd (omega arith)
signed (c ∷ cs) e = rw (first (eqb c 0x2B) e)
  where
    first : (t : Bool) → (t && true) ≡ true → t ≡ true
    first true e = refl
    first false e = e

pub unsigned : (s : List ℕ) → plus s ≡ false → number s ≡ frequency_of s
unfolding frequency_of number
unsigned [] e = refl
unsigned (c ∷ cs) e = rw (first (eqb c 0x2B) e)
  where
    first : (t : Bool) → (t && true) ≡ false → t ≡ false
    first true e = e
    first false e = refl

-- what the loop over the digits goes by
pub ruleset reading = (none_left, some_left, no_digit, next, over, done)
