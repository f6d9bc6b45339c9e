-- `chars_of`, by what stands at the text's start, and the claims about whole texts.
-- `chars_within` counts down with each character, and a character has at least one byte. So any count that is at least the text's length gives the same,
-- and a text's characters are its first one before those of the rest.
-- Assumes nothing.
use mathlib.Core.Path.{◌≡◌, refl, sym, ap, subst, ◌∙◌}
use mathlib.Core.Bool.{Bool, true, false, cond}
use mathlib.Core.Logic.{◌⊎◌, inl, inr}
use mathlib.Core.List.{List, [], ◌∷◌, ◌++◌}
use mathlib.Core.Option.{Option, none, some}
use Prim.Native.Nat.{ℕ, zero, suc, ◌+◌, ◌-◌, ◌≤◌, ◌<◌}
use native.Mathlib.Omega.{arith}
use lib.ListN.{length, take, drop, length-append, length-drop}
use lib.Seq.{drop-append_seam}
use Rattle.std.specs.Prelude.{Ok, Err, Some, None}
use Rattle.utf8.specs.Characters.{Read, char, malformed, ended, Octets, sequences, starts_with, character_number, character, read_by, read_from}
use Rattle.utf8.specs.Text.{before, chars_within, chars_of}
use Rattle.utf8.specs.Encoding.{encode, Scalars, encode_text}
use Rattle.utf8.specs.Claims.{TextsOfEncodings, TextsOnlyOfEncodings}
use Rattle.utf8.proofs.Encodings.{below, encode_1, encode_2, encode_3, encode_4, reads_encodings, reads_only_encodings}

-- an encoding has one to four bytes
abbrev Short : ℕ → Type 0
Short n = (1 ≤ n) × (n ≤ 4)

pub encode_short : (c : ℕ) → Short (length (encode c))
encode_short c = go (below c 0x80) (below c 0x800) (below c 0x10000)
  where
    go : (c < 0x80) ⊎ (0x80 ≤ c) → (c < 0x800) ⊎ (0x800 ≤ c) → (c < 0x10000) ⊎ (0x10000 ≤ c) → Short (length (encode c))
    go (inl x) y z = rw (encode_1 c x) (omega arith, omega arith)
    go (inr x) (inl y) z = rw (encode_2 c x y) (omega arith, omega arith)
    go (inr x) (inr y) (inl z) = rw (encode_3 c y z) (omega arith, omega arith)
    go (inr x) (inr y) (inr z) = rw (encode_4 c z) (omega arith, omega arith)

-- and above U+007F none of them is ASCII; so much of the first
pub encode_lead : (c : ℕ) → 0x80 ≤ c → (b : ℕ) × (bs : List ℕ) × (encode c ≡ b ∷ bs) × (0x80 ≤ b)
encode_lead c x = go (below c 0x800) (below c 0x10000)
  where
    go : (c < 0x800) ⊎ (0x800 ≤ c) → (c < 0x10000) ⊎ (0x10000 ≤ c) → (b : ℕ) × (bs : List ℕ) × (encode c ≡ b ∷ bs) × (0x80 ≤ b)
    go (inl y) z = (_, _, encode_2 c x y, omega arith)
    go (inr y) (inl z) = (_, _, encode_3 c y z, omega arith)
    go (inr y) (inr z) = (_, _, encode_4 c z, omega arith)

-- so a character that is read has one to four bytes, within the text
pub width : (bs : List ℕ) (c w u : ℕ) → read_from bs ≡ char c w u → Short w × (w ≤ length bs)
width bs c w u e =
    let r = reads_only_encodings bs c w u e in
    let l : length (encode c) + length (drop w bs) ≡ length bs = sym (length-append (encode c) (drop w bs)) ∙ ap length r.2 in
    let s = encode_short c in
    let q : length (encode c) ≡ w = r.1 in
    ((omega arith, omega arith), omega arith)

-- ---- one character of the count

module _ (n : ℕ) (bs : List ℕ) where
  within_char : (c w u : ℕ) → read_from bs ≡ char c w u → chars_within (suc n) bs ≡ before c (chars_within n (drop w bs))
  unfolding chars_within
  within_char c w u e = rw (e, chars_within)

  within_malformed : read_from bs ≡ malformed → chars_within (suc n) bs ≡ none
  unfolding chars_within
  within_malformed e = rw (e, chars_within)

  within_end : read_from bs ≡ ended → chars_within (suc n) bs ≡ some []
  unfolding chars_within
  within_end e = rw (e, chars_within)

none_there : read_from [] ≡ ended
unfolding read_from
none_there = refl

not_char : {A : Type 0} (c w u : ℕ) → read_from [] ≡ char c w u → A
not_char c w u e = let z : ◌≡◌ {A = ℕ} 0 1 = cc none_there in absurd (omega arith)

-- any two counts that are large enough give the same
counted : (n m : ℕ) (bs : List ℕ) → length bs ≤ n → length bs ≤ m → chars_within n bs ≡ chars_within m bs
unfolding chars_within read_from
counted zero zero bs h k = refl
counted zero (suc m) [] h k = refl
counted zero (suc m) (b ∷ bs) h k = absurd (omega arith)
counted (suc n) zero [] h k = refl
counted (suc n) zero (b ∷ bs) h k = absurd (omega arith)
counted (suc n) (suc m) bs h k = go (read_from bs) refl (λ w p q. counted n m (drop w bs) (rw (length-drop w bs) p) (rw (length-drop w bs) q))
  where
    go : (r : Read) → read_from bs ≡ r → ((w : ℕ) → length bs - w ≤ n → length bs - w ≤ m → chars_within n (drop w bs) ≡ chars_within m (drop w bs))
        → chars_within (suc n) bs ≡ chars_within (suc m) bs
    go (Ok (Some r)) e rest =
        let c : ℕ = r.value in
        let w : ℕ = r.width in
        let u : ℕ = r.units in
        let s = width bs c w u e in
        within_char n bs c w u e ∙ ap (before c) (rest w (omega arith) (omega arith)) ∙ sym (within_char m bs c w u e)
    go (Err x) e rest = within_malformed n bs e ∙ sym (within_malformed m bs e)
    go (Ok None) e rest = within_end n bs e ∙ sym (within_end m bs e)

-- ---- a text by what stands at its start

pub chars_char : (bs : List ℕ) (c w u : ℕ) → read_from bs ≡ char c w u → chars_of bs ≡ before c (chars_of (drop w bs))
unfolding chars_of
chars_char [] c w u e = not_char c w u e
chars_char (b ∷ bs) c w u e =
    let s = width (b ∷ bs) c w u e in
    within_char (length bs) (b ∷ bs) c w u e
    ∙ ap (before c) (counted (length bs) (length (drop w (b ∷ bs))) (drop w (b ∷ bs)) (rw (length-drop w (b ∷ bs)) (omega arith)) (omega arith))

pub chars_malformed : (bs : List ℕ) → read_from bs ≡ malformed → chars_of bs ≡ none
unfolding chars_of
chars_malformed [] e = let z : ◌≡◌ {A = ℕ} 0 1 = cc none_there in absurd (omega arith)
chars_malformed (b ∷ bs) e = within_malformed (length bs) (b ∷ bs) e

pub chars_end : (bs : List ℕ) → read_from bs ≡ ended → chars_of bs ≡ some []
unfolding chars_of chars_within
chars_end [] e = refl
chars_end (b ∷ bs) e = within_end (length bs) (b ∷ bs) e

-- ---- whole texts

pub texts_of_encodings : TextsOfEncodings
texts_of_encodings [] s = chars_end [] none_there
texts_of_encodings (c ∷ cs) s =
    chars_char (encode c ++ encode_text cs) c (length (encode c)) _ (reads_encodings c (encode_text cs) s.0)
    ∙ ap (before c) (ap chars_of (drop-append_seam (encode c) (encode_text cs)) ∙ texts_of_encodings cs s.1)

-- only nothing reads as the end
not_end : (rows : List (List Octets)) (bs : List ℕ) → read_by rows bs ≡ ended → ⊥
not_end [] bs e = let z : ◌≡◌ {A = ℕ} 0 1 = cc in omega arith
not_end (s ∷ rest) bs e = go (character_number (take (length s) bs)) (length s) (read_by rest bs) (starts_with s bs) (not_end rest bs) e
  where
    go : (c w : ℕ) (other : Read) (t : Bool) → (other ≡ ended → ⊥) → cond t (character c w) other ≡ ended → ⊥
    go c w other true h e = let z : ◌≡◌ {A = ℕ} 0 1 = cc in omega arith
    go c w other false h e = h e

pub end_nil : (bs : List ℕ) → read_from bs ≡ ended → bs ≡ []
unfolding read_from
end_nil [] e = refl
end_nil (b ∷ bs) e = absurd (not_end sequences (b ∷ bs) e)

only_none : (bs cs : List ℕ) → read_from bs ≡ ended → chars_of bs ≡ some cs → Scalars cs × (encode_text cs ≡ bs)
only_none bs cs p e =
    let nil : [] ≡ cs = cc (chars_end bs p) in
    rw (← nil, end_nil bs p) (tt, refl)

-- the first character is an encoding, and so are those of the rest
only_first : (bs cs : List ℕ) (c w u : ℕ) (rest : Option (List ℕ)) → read_from bs ≡ char c w u → before c rest ≡ some cs
    → ((ds : List ℕ) → rest ≡ some ds → Scalars ds × (encode_text ds ≡ drop w bs)) → Scalars cs × (encode_text cs ≡ bs)
only_first bs cs c w u none e q ih = let z : ◌≡◌ {A = ℕ} 0 1 = cc in absurd (omega arith)
only_first bs cs c w u (some ds) e q ih =
    let r = reads_only_encodings bs c w u e in
    let t = ih ds refl in
    let cons : c ∷ ds ≡ cs = cc in
    rw (← cons) ((r.0, t.0), ap (λ (x : List ℕ). encode c ++ x) t.1 ∙ r.2)

only_within : (n : ℕ) (bs cs : List ℕ) → length bs ≤ n → chars_of bs ≡ some cs → Scalars cs × (encode_text cs ≡ bs)
only_within zero [] cs h e = only_none [] cs none_there e
only_within zero (b ∷ bs) cs h e = absurd (omega arith)
only_within (suc n) bs cs h e = go (read_from bs) refl (λ w k ds q. only_within n (drop w bs) ds k q)
  where
    go : (r : Read) → read_from bs ≡ r → ((w : ℕ) → length (drop w bs) ≤ n → (ds : List ℕ) → chars_of (drop w bs) ≡ some ds
        → Scalars ds × (encode_text ds ≡ drop w bs)) → Scalars cs × (encode_text cs ≡ bs)
    go (Ok (Some r)) p rest =
        let c : ℕ = r.value in
        let w : ℕ = r.width in
        let u : ℕ = r.units in
        let s = width bs c w u p in
        only_first bs cs c w u (chars_of (drop w bs)) p (sym (chars_char bs c w u p) ∙ e) (rest w (rw (length-drop w bs) (omega arith)))
    go (Err x) p rest = let z : ◌≡◌ {A = ℕ} 0 1 = cc (chars_malformed bs p) in absurd (omega arith)
    go (Ok None) p rest = only_none bs cs p e

pub texts_only_of_encodings : TextsOnlyOfEncodings
texts_only_of_encodings bs cs e = only_within (length bs) bs cs (omega arith) e

-- a text has no more characters than bytes
chars_bytes : (cs : List ℕ) → length cs ≤ length (encode_text cs)
chars_bytes [] = omega arith
chars_bytes (c ∷ cs) = omega (arith, encode_short c, chars_bytes cs, length-append (encode c) (encode_text cs))

pub no_more_than_bytes : (bs cs : List ℕ) → chars_of bs ≡ some cs → length cs ≤ length bs
no_more_than_bytes bs cs e = subst (λ (bytes : List ℕ). length cs ≤ length bytes) (texts_only_of_encodings bs cs e).1 (chars_bytes cs)
