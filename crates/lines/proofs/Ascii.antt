-- A frequency is the same read by bytes as by characters: digits and + are ASCII, and every byte of any other character is none of them.
-- Assumes nothing.
use mathlib.Core.Path.{◌≡◌, refl, sym, ap, ◌∙◌}
use mathlib.Core.Bool.{Bool, true, false, ◌&&◌}
use mathlib.Core.Logic.{◌⊎◌, inl, inr}
use mathlib.Core.List.{List, [], ◌∷◌, ◌++◌}
use Prim.Native.Nat.{ℕ, ◌<◌, ◌≤◌}
use native.Mathlib.Omega.{arith}
use borrow.Author.Tests.{le-leb, lt-leb, leb-true, ne_eqb, eqb-false}
use lib.Dec.{leb, eqb}
use Rattle.utf8.specs.Encoding.{encode, encode_text}
use Rattle.utf8.proofs.Encodings.{below, encode_1}
use Rattle.utf8.proofs.Texts.{encode_lead}
use Rattle.std.specs.Prelude.{Err}
use Rattle.lines.specs.Lines.{digit, digits, number, frequency_of}

-- what is above 0x7F is no digit
no_digit : (c : ℕ) (x : Bool) → 0x80 ≤ c → (digit c && x) ≡ false
no_digit c x h = rw (le-leb 0x30 c (omega arith), lt-leb c 0x39 (omega arith))

digits_high : (c : ℕ) (cs : List ℕ) → 0x80 ≤ c → digits (encode c ++ cs) ≡ false
digits_high c cs h = let l = encode_lead c h in rw l.2 (no_digit l.0 _ l.3)

digits_text : (cs : List ℕ) → digits (encode_text cs) ≡ digits cs
digits_text [] = refl
digits_text (c ∷ cs) = go (below c 0x80) (digits_text cs)
  where
    go : (c < 0x80) ⊎ (0x80 ≤ c) → digits (encode_text cs) ≡ digits cs → digits (encode_text (c ∷ cs)) ≡ digits (c ∷ cs)
    go (inl h) ih = rw (encode_1 c h, ih)
    go (inr h) ih = digits_high c (encode_text cs) h ∙ sym (no_digit c (digits cs) h)

both : (x y : Bool) → (x && y) ≡ true → (x ≡ true) × (y ≡ true)
both true y e = (refl, e)
both false y e = let z : ◌≡◌ {A = ℕ} 0 1 = cc in absurd (omega arith)

-- digits are their own encoding
text_digits : (cs : List ℕ) → digits cs ≡ true → encode_text cs ≡ cs
text_digits [] e = refl
text_digits (c ∷ cs) e =
    let p = both (digit c) (digits cs) e in
    let q = both (leb 0x30 c) (leb c 0x39) p.0 in
    let h : c ≤ 0x39 = leb-true c 0x39 q.1 in
    rw (encode_1 c (omega arith), text_digits cs p.1)

no_number : (cs : List ℕ) → digits cs ≡ false → number cs ≡ Err (record {})
unfolding number
no_number [] e = refl
no_number (c ∷ cs) e = rw e

number_text : (cs : List ℕ) → number (encode_text cs) ≡ number cs
number_text cs = go (digits cs) refl
  where
    go : (t : Bool) → digits cs ≡ t → number (encode_text cs) ≡ number cs
    go true e = ap number (text_digits cs e)
    go false e = no_number (encode_text cs) (digits_text cs ∙ e) ∙ sym (no_number cs e)

unsigned_text : (b : ℕ) (bs : List ℕ) (c : ℕ) (cs : List ℕ) → (b ≡ 0x2B → ⊥) → (c ≡ 0x2B → ⊥) → b ∷ bs ≡ encode_text (c ∷ cs)
    → frequency_of (b ∷ bs) ≡ frequency_of (c ∷ cs)
unfolding frequency_of
unsigned_text b bs c cs nb nc e = rw (ne_eqb b 0x2B nb, ne_eqb c 0x2B nc) (ap number e ∙ number_text (c ∷ cs))

pub frequency_text : (cs : List ℕ) → frequency_of (encode_text cs) ≡ frequency_of cs
unfolding frequency_of
frequency_text [] = refl
frequency_text (c ∷ cs) = go (below c 0x80)
  where
    sign : c < 0x80 → (t : Bool) → eqb c 0x2B ≡ t → frequency_of (encode_text (c ∷ cs)) ≡ frequency_of (c ∷ cs)
    sign h true e = rw (encode_1 c h, e) (number_text cs)
    sign h false e =
        ap (λ (x : List ℕ). frequency_of (x ++ encode_text cs)) (encode_1 c h)
        ∙ unsigned_text c (encode_text cs) c cs (eqb-false c 0x2B e) (eqb-false c 0x2B e) (sym (ap (λ (x : List ℕ). x ++ encode_text cs) (encode_1 c h)))

    go : (c < 0x80) ⊎ (0x80 ≤ c) → frequency_of (encode_text (c ∷ cs)) ≡ frequency_of (c ∷ cs)
    go (inl h) = sign h (eqb c 0x2B) refl
    go (inr h) =
        let l = encode_lead c h in
        let k : 0x80 ≤ l.0 = l.3 in
        let q : encode_text (c ∷ cs) ≡ l.0 ∷ (l.1 ++ encode_text cs) = ap (λ (x : List ℕ). x ++ encode_text cs) l.2 in
        ap frequency_of q ∙ unsigned_text l.0 (l.1 ++ encode_text cs) c cs (λ e. omega arith) (λ e. omega arith) (sym q)
