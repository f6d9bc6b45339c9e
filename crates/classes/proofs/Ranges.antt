-- What a list of ranges answers for a code point of which a `match` has tested bounds and single code points. The answer does not
-- change between two neighbouring ends of the ranges, so a test that antt computes over the list settles it at once for all code points
-- from a to below e. Four laws, of which each `return` of a `match` needs one:
--     inside     yes: c is from a to below e, and the ranges have all of these
--     listed     yes: c is one of the single code points ks, and the ranges have each of them
--     outside    no: c is from a to below e and none of ks, and the ranges have none of these
--     under      no: the same, where no lower bound was tested
-- Assumes nothing.
use mathlib.Core.Path.{◌≡◌, refl}
use mathlib.Core.Logic.{inl, inr}
use mathlib.Core.Bool.{Bool, true, false, ◌&&◌, ◌||◌, and-false}
use mathlib.Core.List.{List, [], ◌∷◌}
use Prim.Native.Nat.{ℕ, suc, ◌≤◌, ◌<◌, min, max, zero-le}
use native.Mathlib.Decide.{dec_lt}
use native.Mathlib.Omega.{arith}
use borrow.Author.Tests.{le-leb, lt-leb}
use mir.Facts.{and_yes, or_yes}
use mir.Val.{has_key}
use types.Run.{OneOf, hit}
use lib.Dec.{T, leb, ltb, eqb, leb→le, ltb→lt, eqb→eq}
use Rattle.classes.specs.Ranges.{Range, in_range, in_ranges}

-- a code point is below a range, in it or above it
module _ (r : Range) (c : ℕ) where
  below : c < r.from → in_range r c ≡ false
  below h = rw (lt-leb r.from c h)

  within : r.from ≤ c → c ≤ r.to → in_range r c ≡ true
  within h k = rw (le-leb r.from c h, le-leb c r.to k)

  above : r.to < c → in_range r c ≡ false
  above h = rw (lt-leb c r.to h) (and-false (leb r.from c))

  by_place : {G : Type 0} → (c < r.from → G) → (r.from ≤ c → c ≤ r.to → G) → (r.to < c → G) → G
  by_place low in_it high =
      elim (dec_lt c r.from) [
        | yes h ↦ low h
        | no h ↦ elim (dec_lt r.to c) [ yes k ↦ high k | no k ↦ in_it (omega arith) (omega arith) ]
      ]

-- the ranges have every code point from a to below e: what the first range leaves below it and above it, the others have
abbrev covers : List Range → ℕ → ℕ → Bool
covers [] a e = leb e a
covers (r ∷ rs) a e = leb e a || (covers rs a (min e r.from) && covers rs (max a (suc r.to)) e)

pub inside : (rs : List Range) (a e c : ℕ) → a ≤ c → c < e → T (covers rs a e) → true ≡ in_ranges rs c
unfolding in_ranges
inside [] a e c h k t = absurd (omega (arith, leb→le e a t))
inside (r ∷ rs) a e c h k t =
    elim (or_yes (leb e a) (covers rs a (min e r.from) && covers rs (max a (suc r.to)) e) t) [
      | inl none ↦ absurd (omega (arith, leb→le e a none))
      | inr both ↦
          let parts = and_yes (covers rs a (min e r.from)) (covers rs (max a (suc r.to)) e) both in
          by_place r c
          (λ low. rw (below r c low) (inside rs a (min e r.from) c h (omega arith) parts.0))
          (λ from to. rw (within r c from to))
          (λ high. rw (above r c high) (inside rs (max a (suc r.to)) e c (omega arith) k parts.1))
    ]

-- the ranges have each of the code points ks
abbrev covers_each : List ℕ → List Range → Bool
covers_each [] rs = true
covers_each (k ∷ ks) rs = covers rs k (suc k) && covers_each ks rs

pub listed : (ks : List ℕ) (rs : List Range) (c : ℕ) → OneOf ks c → T (covers_each ks rs) → true ≡ in_ranges rs c
listed [] rs c h t = absurd h
listed (k ∷ []) rs c h t = inside rs k (suc k) c (omega arith) (omega arith) (and_yes (covers rs k (suc k)) true t).0
listed (k ∷ l ∷ ks) rs c (inl h) t =
    inside rs k (suc k) c (omega arith) (omega arith) (and_yes (covers rs k (suc k)) (covers_each (l ∷ ks) rs) t).0
listed (k ∷ l ∷ ks) rs c (inr h) t =
    listed (l ∷ ks) rs c h (and_yes (covers rs k (suc k)) (covers_each (l ∷ ks) rs) t).1

-- the range has no code point from a to below e, but for a single one that is among ks
abbrev avoids : List ℕ → Range → ℕ → ℕ → Bool
avoids ks r a e = leb e r.from || (ltb r.to a || (eqb r.from r.to && has_key ks r.from))

abbrev avoids_all : List ℕ → List Range → ℕ → ℕ → Bool
avoids_all ks [] a e = true
avoids_all ks (r ∷ rs) a e = avoids ks r a e && avoids_all ks rs a e

module _ (ks : List ℕ) where
  apart : (r : Range) (a e c : ℕ) → (OneOf ks c → ⊥) → a ≤ c → c < e → T (avoids ks r a e) → in_range r c ≡ false
  apart r a e c other h k t =
      elim (or_yes (leb e r.from) (ltb r.to a || (eqb r.from r.to && has_key ks r.from)) t) [
        | inl low ↦ below r c (omega (arith, leb→le e r.from low))
        | inr rest ↦
            elim (or_yes (ltb r.to a) (eqb r.from r.to && has_key ks r.from) rest) [
              | inl high ↦ above r c (omega (arith, ltb→lt r.to a high))
              | inr single ↦
                  let parts = and_yes (eqb r.from r.to) (has_key ks r.from) single in
                  by_place r c (below r c)
                  (λ from to.
                  let same : r.from ≡ c = omega (arith, eqb→eq r.from r.to parts.0) in
                  absurd (other (hit ks c (rw same at parts.1))))
                  (above r c)
            ]
      ]

  pub outside : (rs : List Range) (a e c : ℕ) → (OneOf ks c → ⊥) → a ≤ c → c < e → T (avoids_all ks rs a e) → false ≡ in_ranges rs c
  unfolding in_ranges
  outside [] a e c other h k t = refl
  outside (r ∷ rs) a e c other h k t =
      let parts = and_yes (avoids ks r a e) (avoids_all ks rs a e) t in
      rw (apart r a e c other h k parts.0) (outside rs a e c other h k parts.1)

  pub under : (rs : List Range) (e c : ℕ) → (OneOf ks c → ⊥) → c < e → T (avoids_all ks rs 0 e) → false ≡ in_ranges rs c
  under rs e c other k t = outside rs 0 e c other zero-le k t
