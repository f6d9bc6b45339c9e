-- `read_from` reads exactly the encodings of scalar values.
-- A sequence of RFC 3629's syntax bounds each of its octets, so the number that it spells is a scalar value of the sequence's width, and that number's
-- encoding is the sequence again.
-- Back: a scalar value lies within the numbers of one sequence. The sequences before it in the list have smaller lead octets, so they are passed over.
-- Assumes nothing.
use mathlib.Core.Path.{◌≡◌, refl, sym, ap, ◌∙◌}
use mathlib.Core.Bool.{Bool, true, false, cond, ◌&&◌}
use mathlib.Core.Logic.{◌⊎◌, inl, inr}
use mathlib.Core.List.{List, [], ◌∷◌, ◌++◌}
use Prim.Native.Nat.{ℕ, ◌+◌, ◌*◌, ◌/◌, ◌%◌, ◌≤◌, ◌<◌}
use native.Mathlib.Omega.{arith}
use lib.Dec.{T, ltb, leb}
use Rattle.std.specs.Prelude.{Ok, Err, Some, None}
use lib.ListN.{length, take, drop}
use borrow.Author.Tests.{lt-ltb, le-ltb, le-leb, lt-leb, ltb-true, ltb-false}
use Rattle.utf8.specs.Characters.{Read, char, Octets, octets, tail, sequences, starts_with, character_number, character, read_by, read_from}
use Rattle.utf8.specs.Encoding.{Scalar, encode}
use Rattle.utf8.specs.Utf16.{units_of}
use Rattle.utf8.specs.Claims.{ReadsEncodings, ReadsOnlyEncodings}
use Rattle.utf8.proofs.Utf16.{units_encoded}

-- a number is below m or not
pub below : (c m : ℕ) → (c < m) ⊎ (m ≤ c)
below c m = go (ltb c m) refl
  where
    go : (t : Bool) → ltb c m ≡ t → (c < m) ⊎ (m ≤ c)
    go true e = inl (ltb-true c m e)
    go false e = inr (ltb-false c m e)

-- ---- the encoding, by the value's range

pub encode_1 : (c : ℕ) → c < 0x80 → encode c ≡ c ∷ []
unfolding encode
encode_1 c h = rw (lt-ltb c 0x80 h)

pub encode_2 : (c : ℕ) → 0x80 ≤ c → c < 0x800 → encode c ≡ (0xC0 + c / 0x40) ∷ (0x80 + c % 0x40) ∷ []
unfolding encode
encode_2 c l h = rw (le-ltb c 0x80 l, lt-ltb c 0x800 h)

pub encode_3 : (c : ℕ) → 0x800 ≤ c → c < 0x10000 → encode c ≡ (0xE0 + c / 0x1000) ∷ (0x80 + c / 0x40 % 0x40) ∷ (0x80 + c % 0x40) ∷ []
unfolding encode
encode_3 c l h = let l1 : 0x80 ≤ c = omega arith in rw (le-ltb c 0x80 l1, le-ltb c 0x800 l, lt-ltb c 0x10000 h)

pub encode_4 : (c : ℕ) → 0x10000 ≤ c → encode c ≡ (0xF0 + c / 0x40000) ∷ (0x80 + c / 0x1000 % 0x40) ∷ (0x80 + c / 0x40 % 0x40) ∷ (0x80 + c % 0x40) ∷ []
unfolding encode
encode_4 c l =
    let l1 : 0x80 ≤ c = omega arith in
    let l2 : 0x800 ≤ c = omega arith in
    rw (le-ltb c 0x80 l1, le-ltb c 0x800 l2, le-ltb c 0x10000 l)

-- an encoding of four bytes is one of U+10000 or more
pub from_four : (c : ℕ) → length (encode c) ≡ 4 → 0x10000 ≤ c
from_four c e = go (below c 0x80) (below c 0x800) (below c 0x10000)
  where
    go : (c < 0x80) ⊎ (0x80 ≤ c) → (c < 0x800) ⊎ (0x800 ≤ c) → (c < 0x10000) ⊎ (0x10000 ≤ c) → 0x10000 ≤ c
    go (inl x) y z = let l : length (encode c) ≡ 1 = ap length (encode_1 c x) in absurd (omega arith)
    go (inr x) (inl y) z = let l : length (encode c) ≡ 2 = ap length (encode_2 c x y) in absurd (omega arith)
    go (inr x) (inr y) (inl z) = let l : length (encode c) ≡ 3 = ap length (encode_3 c y z) in absurd (omega arith)
    go (inr x) (inr y) (inr z) = z

-- ---- a sequence that fits spells a scalar value of its width

-- what reading c from the bytes with w octets has to show
abbrev Encodes : List ℕ → ℕ → ℕ → Type 0
Encodes bs c w = Scalar c × (length (encode c) ≡ w) × (encode c ++ drop w bs ≡ bs)

-- each part of a test that holds
pub both : (x y : Bool) → T (x && y) → T x × T y
both true y h = (tt, h)
both false y h = absurd h

pub octet : (r : Octets) (b : ℕ) (y : Bool) → T (leb r.first b && leb b r.last && y) → (r.first ≤ b) × (b ≤ r.last) × T y
octet r b y h =
    let p = both (leb r.first b && leb b r.last) y h in
    let q = both (leb r.first b) (leb b r.last) p.0 in
    (lib.Dec.leb→le _ _ q.0, lib.Dec.leb→le _ _ q.1, p.1)

-- a sequence all of whose fits encode the number that they spell
abbrev Sound : List Octets → Type 0
Sound s = (bs : List ℕ) → T (starts_with s bs) → Encodes bs (character_number (take (length s) bs)) (length s)

spelled : (bs : List ℕ) (c w : ℕ) (e : List ℕ) → Scalar c → encode c ≡ e → length e ≡ w → e ++ drop w bs ≡ bs → Encodes bs c w
spelled bs c w e s p l q = (s, ap length p ∙ l, ap (λ (x : List ℕ). x ++ drop w bs) p ∙ q)

one_octet : Sound (octets 0x00 0x7F ∷ [])
one_octet [] h = absurd h
one_octet (a ∷ bs) h =
    let p = octet (octets 0x00 0x7F) a true h in
    let q : a < 0x80 = omega arith in
    spelled (a ∷ bs) a 1 (a ∷ []) (inl (omega arith)) (encode_1 a q) refl refl

-- the number spelled by two octets, and the octets again
two_octets : (a b : ℕ) (bs : List ℕ) → 0xC2 ≤ a → a ≤ 0xDF → 0x80 ≤ b → b ≤ 0xBF → Encodes (a ∷ b ∷ bs) (a % 0x20 * 0x40 + b % 0x40) 2
two_octets a b bs a0 a1 b0 b1 =
    let c : ℕ = a % 0x20 * 0x40 + b % 0x40 in
    let ea : 0xC0 + c / 0x40 ≡ a = omega arith in
    let eb : 0x80 + c % 0x40 ≡ b = omega arith in
    spelled (a ∷ b ∷ bs) c 2 (a ∷ b ∷ []) (inl (omega arith)) (encode_2 c (omega arith) (omega arith) ∙ rw (ea, eb)) refl refl

-- three octets, whose second one keeps the number at U+0800 or above and off the surrogates
three_octets : (a b c : ℕ) (bs : List ℕ) (n : ℕ) → n ≡ a % 0x10 * 0x1000 + b % 0x40 * 0x40 + c % 0x40
    → 0xE0 ≤ a → a ≤ 0xEF → 0x80 ≤ b → b ≤ 0xBF → 0x80 ≤ c → c ≤ 0xBF → 0x800 ≤ n → Scalar n → Encodes (a ∷ b ∷ c ∷ bs) n 3
three_octets a b c bs n e a0 a1 b0 b1 c0 c1 l s =
    let ea : 0xE0 + n / 0x1000 ≡ a = omega arith in
    let eb : 0x80 + n / 0x40 % 0x40 ≡ b = omega arith in
    let ec : 0x80 + n % 0x40 ≡ c = omega arith in
    spelled (a ∷ b ∷ c ∷ bs) n 3 (a ∷ b ∷ c ∷ []) s (encode_3 n l (omega arith) ∙ rw (ea, eb, ec)) refl refl

-- four octets, whose second one keeps the number within U+10000 to U+10FFFF
four_octets : (a b c d : ℕ) (bs : List ℕ) (n : ℕ) → n ≡ a % 0x08 * 0x40000 + b % 0x40 * 0x1000 + c % 0x40 * 0x40 + d % 0x40
    → 0xF0 ≤ a → a ≤ 0xF4 → 0x80 ≤ b → b ≤ 0xBF → 0x80 ≤ c → c ≤ 0xBF → 0x80 ≤ d → d ≤ 0xBF → 0x10000 ≤ n → n ≤ 0x10FFFF → Encodes (a ∷ b ∷ c ∷ d ∷ bs) n 4
four_octets a b c d bs n e a0 a1 b0 b1 c0 c1 d0 d1 l h =
    let ea : 0xF0 + n / 0x40000 ≡ a = omega arith in
    let eb : 0x80 + n / 0x1000 % 0x40 ≡ b = omega arith in
    let ec : 0x80 + n / 0x40 % 0x40 ≡ c = omega arith in
    let ed : 0x80 + n % 0x40 ≡ d = omega arith in
    spelled (a ∷ b ∷ c ∷ d ∷ bs) n 4 (a ∷ b ∷ c ∷ d ∷ []) (inr (omega arith, h)) (encode_4 n l ∙ rw (ea, eb, ec, ed)) refl refl

-- the number that three octets spell, and the one that four spell
abbrev number_3 : ℕ → ℕ → ℕ → ℕ
number_3 a b c = a % 0x10 * 0x1000 + b % 0x40 * 0x40 + c % 0x40

abbrev number_4 : ℕ → ℕ → ℕ → ℕ → ℕ
number_4 a b c d = a % 0x08 * 0x40000 + b % 0x40 * 0x1000 + c % 0x40 * 0x40 + d % 0x40

-- the rows of the syntax: `octet` gives each octet's range, the arithmetic the rest
sound_2 : Sound (octets 0xC2 0xDF ∷ tail ∷ [])
sound_2 [] h = absurd h
sound_2 (a ∷ []) h = absurd (octet (octets 0xC2 0xDF) a false h).2
sound_2 (a ∷ b ∷ bs) h =
    let p = octet (octets 0xC2 0xDF) a (starts_with (tail ∷ []) (b ∷ bs)) h in
    let q = octet tail b true p.2 in
    two_octets a b bs p.0 p.1 q.0 q.1

-- a sequence of three octets with lead r and second octet t, where the two keep the number right
sound_3 : (r t : Octets) → 0xE0 ≤ r.first → r.last ≤ 0xEF → 0x80 ≤ t.first → t.last ≤ 0xBF
    → ((a b c : ℕ) → r.first ≤ a → a ≤ r.last → t.first ≤ b → b ≤ t.last → (0x800 ≤ number_3 a b c) × Scalar (number_3 a b c))
    → Sound (r ∷ t ∷ tail ∷ [])
sound_3 r t r0 r1 t0 t1 right [] h = absurd h
sound_3 r t r0 r1 t0 t1 right (a ∷ []) h = absurd (octet r a false h).2
sound_3 r t r0 r1 t0 t1 right (a ∷ b ∷ []) h = absurd (octet t b false (octet r a (starts_with (t ∷ tail ∷ []) (b ∷ [])) h).2).2
sound_3 r t r0 r1 t0 t1 right (a ∷ b ∷ c ∷ bs) h =
    let p = octet r a (starts_with (t ∷ tail ∷ []) (b ∷ c ∷ bs)) h in
    let q = octet t b (starts_with (tail ∷ []) (c ∷ bs)) p.2 in
    let u = octet tail c true q.2 in
    let v = right a b c p.0 p.1 q.0 q.1 in
    three_octets a b c bs _ refl (omega arith) (omega arith) (omega arith) (omega arith) u.0 u.1 v.0 v.1

-- the same with four octets
sound_4 : (r t : Octets) → 0xF0 ≤ r.first → r.last ≤ 0xF4 → 0x80 ≤ t.first → t.last ≤ 0xBF
    → ((a b c d : ℕ) → r.first ≤ a → a ≤ r.last → t.first ≤ b → b ≤ t.last → (0x10000 ≤ number_4 a b c d) × (number_4 a b c d ≤ 0x10FFFF))
    → Sound (r ∷ t ∷ tail ∷ tail ∷ [])
sound_4 r t r0 r1 t0 t1 right [] h = absurd h
sound_4 r t r0 r1 t0 t1 right (a ∷ []) h = absurd (octet r a false h).2
sound_4 r t r0 r1 t0 t1 right (a ∷ b ∷ []) h = absurd (octet t b false (octet r a (starts_with (t ∷ tail ∷ tail ∷ []) (b ∷ [])) h).2).2
sound_4 r t r0 r1 t0 t1 right (a ∷ b ∷ c ∷ []) h =
    let p = octet r a (starts_with (t ∷ tail ∷ tail ∷ []) (b ∷ c ∷ [])) h in
    let q = octet t b (starts_with (tail ∷ tail ∷ []) (c ∷ [])) p.2 in
    absurd (octet tail c false q.2).2
sound_4 r t r0 r1 t0 t1 right (a ∷ b ∷ c ∷ d ∷ bs) h =
    let p = octet r a (starts_with (t ∷ tail ∷ tail ∷ []) (b ∷ c ∷ d ∷ bs)) h in
    let q = octet t b (starts_with (tail ∷ tail ∷ []) (c ∷ d ∷ bs)) p.2 in
    let u = octet tail c (starts_with (tail ∷ []) (d ∷ bs)) q.2 in
    let v = octet tail d true u.2 in
    let w = right a b c d p.0 p.1 q.0 q.1 in
    four_octets a b c d bs _ refl (omega arith) (omega arith) (omega arith) (omega arith) u.0 u.1 v.0 v.1 w.0 w.1

-- all of the syntax
abbrev AllSound : List (List Octets) → Type 0
AllSound [] = Unit {0}
AllSound (s ∷ rest) = Sound s × AllSound rest

all_sound : AllSound sequences
all_sound = (
  one_octet,
  (
    sound_2,
    (
      sound_3 (octets 0xE0 0xE0) (octets 0xA0 0xBF) (omega arith) (omega arith) (omega arith) (omega arith)
          (λ a b c a0 a1 b0 b1. (omega arith, inl (omega arith))),
      (
        sound_3 (octets 0xE1 0xEC) tail (omega arith) (omega arith) (omega arith) (omega arith) (λ a b c a0 a1 b0 b1. (omega arith, inl (omega arith))),
        (
          sound_3 (octets 0xED 0xED) (octets 0x80 0x9F) (omega arith) (omega arith) (omega arith) (omega arith)
              (λ a b c a0 a1 b0 b1. (omega arith, inl (omega arith))),
          (
            sound_3 (octets 0xEE 0xEF) tail (omega arith) (omega arith) (omega arith) (omega arith)
                (λ a b c a0 a1 b0 b1. (omega arith, inr (omega arith, omega arith))),
            (
              sound_4 (octets 0xF0 0xF0) (octets 0x90 0xBF) (omega arith) (omega arith) (omega arith) (omega arith)
                  (λ a b c d a0 a1 b0 b1. (omega arith, omega arith)),
              (
                sound_4 (octets 0xF1 0xF3) tail (omega arith) (omega arith) (omega arith) (omega arith) (λ a b c d a0 a1 b0 b1. (omega arith, omega arith)),
                (
                  sound_4 (octets 0xF4 0xF4) (octets 0x80 0x8F) (omega arith) (omega arith) (omega arith) (omega arith)
                      (λ a b c d a0 a1 b0 b1. (omega arith, omega arith)),
                  tt,
                ),
              ),
            ),
          ),
        ),
      ),
    ),
  ),
)

-- two characters that are the same, part for part
pub same_char : {c w u d x v : ℕ} → char c w u ≡ char d x v → (c ≡ d) × (w ≡ x) × (u ≡ v)
same_char e = (
  ap (λ (r : Read). elim r [ Ok (Some q) ↦ q.value | Ok None ↦ 0 | Err y ↦ 0 ]) e,
  ap (λ (r : Read). elim r [ Ok (Some q) ↦ q.width | Ok None ↦ 0 | Err y ↦ 0 ]) e,
  ap (λ (r : Read). elim r [ Ok (Some q) ↦ q.units | Ok None ↦ 0 | Err y ↦ 0 ]) e,
)

-- so whatever is read by them is an encoding, with the units of the number that it spells
abbrev EncodesIn : List ℕ → ℕ → ℕ → ℕ → Type 0
EncodesIn bs c w u = Encodes bs c w × (units_of c ≡ u)

sound_at : (s : List Octets) (bs : List ℕ) (c w u : ℕ) (other : Read) (t : Bool) → starts_with s bs ≡ t → Sound s
    → (other ≡ char c w u → EncodesIn bs c w u)
    → cond t (character (character_number (take (length s) bs)) (length s)) other ≡ char c w u → EncodesIn bs c w u
sound_at s bs c w u other true p ok next e =
    let same = same_char e in
    (rw (← same.0, ← same.1) (ok bs (rw p tt)), ap units_of (sym same.0) ∙ same.2)
sound_at s bs c w u other false p ok next e = next e

sound_by : (rows : List (List Octets)) → AllSound rows → (bs : List ℕ) (c w u : ℕ) → read_by rows bs ≡ char c w u → EncodesIn bs c w u
sound_by [] ok bs c w u e = let z : ◌≡◌ {A = ℕ} 0 1 = cc in absurd (omega arith)
sound_by (s ∷ rest) ok bs c w u e = sound_at s bs c w u (read_by rest bs) (starts_with s bs) refl ok.0 (sound_by rest ok.1 bs c w u) e

pub reads_only_encodings : ReadsOnlyEncodings
unfolding read_from
reads_only_encodings [] c w u e = let z : ◌≡◌ {A = ℕ} 0 1 = cc in absurd (omega arith)
reads_only_encodings (b ∷ bs) c w u e =
    let read = sound_by sequences all_sound (b ∷ bs) c w u e in
    (read.0.0, read.0.1, read.0.2, sym (units_encoded c) ∙ read.1)

-- ---- a scalar value's encoding is read

-- the lead octets of these sequences are all below m
abbrev pub leads_below : List (List Octets) → ℕ → Bool
leads_below [] m = true
leads_below ([] ∷ rest) m = false
leads_below ((r ∷ rs) ∷ rest) m = ltb r.last m && leads_below rest m

pub no_lead : (r : Octets) (rs : List Octets) (a : ℕ) (bs : List ℕ) → r.last < a → starts_with (r ∷ rs) (a ∷ bs) ≡ false
no_lead r rs a bs h = rw (lt-leb a r.last h) (refused (leb r.first a) (starts_with rs bs))
  where
    refused : (x y : Bool) → (x && false && y) ≡ false
    refused true y = refl
    refused false y = refl

-- so from a lead octet of at least m on they are passed over
pub passed : (rows rest : List (List Octets)) (m a : ℕ) (bs : List ℕ) → T (leads_below rows m) → m ≤ a → read_by (rows ++ rest) (a ∷ bs) ≡ read_by rest (a ∷ bs)
passed [] rest m a bs h l = refl
passed ([] ∷ rows) rest m a bs h l = absurd h
passed ((r ∷ rs) ∷ rows) rest m a bs h l =
    let p = both (ltb r.last m) (leads_below rows m) h in
    let q : r.last < m = lib.Dec.ltb→lt _ _ p.0 in
    rw (no_lead r rs a bs (omega arith)) (passed rows rest m a bs p.1 l)

taken : (s : List Octets) (rest : List (List Octets)) (bs : List ℕ) → starts_with s bs ≡ true
    → read_by (s ∷ rest) bs ≡ character (character_number (take (length s) bs)) (length s)
taken s rest bs e = rw e

-- the sequence r t, whose lead is above those of the sequences before it, reads three octets; and four
read_3 : (pre rest : List (List Octets)) (r t : Octets) (a b c n : ℕ) (bs : List ℕ) → T (leads_below pre r.first) → number_3 a b c ≡ n
    → r.first ≤ a → a ≤ r.last → t.first ≤ b → b ≤ t.last → 0x80 ≤ c → c ≤ 0xBF
    → read_by (pre ++ (r ∷ t ∷ tail ∷ []) ∷ rest) (a ∷ b ∷ c ∷ bs) ≡ character n 3
read_3 pre rest r t a b c n bs before e a0 a1 b0 b1 c0 c1 =
    passed pre ((r ∷ t ∷ tail ∷ []) ∷ rest) r.first a (b ∷ c ∷ bs) before a0
    ∙ taken (r ∷ t ∷ tail ∷ []) rest (a ∷ b ∷ c ∷ bs)
    (rw (le-leb r.first a a0, le-leb a r.last a1, le-leb t.first b b0, le-leb b t.last b1, le-leb 0x80 c c0, le-leb c 0xBF c1))
    ∙ ap (λ (m : ℕ). character m 3) e

read_4 : (pre rest : List (List Octets)) (r t : Octets) (a b c d n : ℕ) (bs : List ℕ) → T (leads_below pre r.first) → number_4 a b c d ≡ n
    → r.first ≤ a → a ≤ r.last → t.first ≤ b → b ≤ t.last → 0x80 ≤ c → c ≤ 0xBF → 0x80 ≤ d → d ≤ 0xBF
    → read_by (pre ++ (r ∷ t ∷ tail ∷ tail ∷ []) ∷ rest) (a ∷ b ∷ c ∷ d ∷ bs) ≡ character n 4
read_4 pre rest r t a b c d n bs before e a0 a1 b0 b1 c0 c1 d0 d1 =
    passed pre ((r ∷ t ∷ tail ∷ tail ∷ []) ∷ rest) r.first a (b ∷ c ∷ d ∷ bs) before a0
    ∙ taken (r ∷ t ∷ tail ∷ tail ∷ []) rest (a ∷ b ∷ c ∷ d ∷ bs)
    (rw (
      le-leb r.first a a0,
      le-leb a r.last a1,
      le-leb t.first b b0,
      le-leb b t.last b1,
      le-leb 0x80 c c0,
      le-leb c 0xBF c1,
      le-leb 0x80 d d0,
      le-leb d 0xBF d1,
    ))
    ∙ ap (λ (m : ℕ). character m 4) e

-- by which sequence a value from U+0800 to U+FFFF is read
reads_3 : (n a b c : ℕ) (bs : List ℕ) → 0x800 ≤ n → n < 0x10000 → a ≡ 0xE0 + n / 0x1000 → b ≡ 0x80 + n / 0x40 % 0x40 → c ≡ 0x80 + n % 0x40
    → (n < 0x1000) ⊎ (0x1000 ≤ n) → (n < 0xD000) ⊎ (0xD000 ≤ n) → Scalar n → read_by sequences (a ∷ b ∷ c ∷ bs) ≡ character n 3
reads_3 n a b c bs l h ea eb ec (inl x) y z =
    read_3 (take 2 sequences) (drop 3 sequences) (octets 0xE0 0xE0) (octets 0xA0 0xBF) a b c n bs tt
    (omega arith) (omega arith) (omega arith) (omega arith) (omega arith) (omega arith) (omega arith)
reads_3 n a b c bs l h ea eb ec (inr x) (inl y) z =
    read_3 (take 3 sequences) (drop 4 sequences) (octets 0xE1 0xEC) tail a b c n bs tt
    (omega arith) (omega arith) (omega arith) (omega arith) (omega arith) (omega arith) (omega arith)
reads_3 n a b c bs l h ea eb ec (inr x) (inr y) (inl z) =
    read_3 (take 4 sequences) (drop 5 sequences) (octets 0xED 0xED) (octets 0x80 0x9F) a b c n bs tt
    (omega arith) (omega arith) (omega arith) (omega arith) (omega arith) (omega arith) (omega arith)
reads_3 n a b c bs l h ea eb ec (inr x) (inr y) (inr z) =
    read_3 (take 5 sequences) (drop 6 sequences) (octets 0xEE 0xEF) tail a b c n bs tt
    (omega arith) (omega arith) (omega arith) (omega arith) (omega arith) (omega arith) (omega arith)

-- a number by its digits of six bits: two of them and what stands above, and three
pub digits_3 : (n : ℕ) → n / 0x1000 * 0x1000 + n / 0x40 % 0x40 * 0x40 + n % 0x40 ≡ n
digits_3 n =
    let a : n / 0x40 * 0x40 + n % 0x40 ≡ n = omega arith in
    let b : n / 0x1000 * 0x40 + n / 0x40 % 0x40 ≡ n / 0x40 = omega arith in
    omega (arith, a, b)

pub digits_4 : (n : ℕ) → n / 0x40000 * 0x40000 + n / 0x1000 % 0x40 * 0x1000 + n / 0x40 % 0x40 * 0x40 + n % 0x40 ≡ n
digits_4 n =
    let a : n / 0x40000 * 0x40 + n / 0x1000 % 0x40 ≡ n / 0x1000 = omega arith in
    sum (n / 0x40000) (n / 0x1000 % 0x40) (n / 0x1000) (n / 0x40 % 0x40) (n % 0x40) a (digits_3 n)
  where
    sum : (u x v y z : ℕ) → u * 0x40 + x ≡ v → v * 0x1000 + y * 0x40 + z ≡ n → u * 0x40000 + x * 0x1000 + y * 0x40 + z ≡ n
    sum u x v y z a b = omega arith

value_4 : (n a b c d : ℕ) → n ≤ 0x10FFFF → a ≡ 0xF0 + n / 0x40000 → b ≡ 0x80 + n / 0x1000 % 0x40 → c ≡ 0x80 + n / 0x40 % 0x40 → d ≡ 0x80 + n % 0x40
    → number_4 a b c d ≡ n
value_4 n a b c d h ea eb ec ed =
    let a' : a % 0x08 ≡ n / 0x40000 = omega arith in
    let b' : b % 0x40 ≡ n / 0x1000 % 0x40 = omega arith in
    let c' : c % 0x40 ≡ n / 0x40 % 0x40 = omega arith in
    let d' : d % 0x40 ≡ n % 0x40 = omega arith in
    rw (a', b', c', d') (digits_4 n)

-- and one from U+10000 to U+10FFFF
reads_4 : (n a b c d : ℕ) (bs : List ℕ) → 0x10000 ≤ n → n ≤ 0x10FFFF → a ≡ 0xF0 + n / 0x40000 → b ≡ 0x80 + n / 0x1000 % 0x40
    → c ≡ 0x80 + n / 0x40 % 0x40 → d ≡ 0x80 + n % 0x40
    → (n < 0x40000) ⊎ (0x40000 ≤ n) → (n < 0x100000) ⊎ (0x100000 ≤ n) → read_by sequences (a ∷ b ∷ c ∷ d ∷ bs) ≡ character n 4
reads_4 n a b c d bs l h ea eb ec ed (inl x) y =
    read_4 (take 6 sequences) (drop 7 sequences) (octets 0xF0 0xF0) (octets 0x90 0xBF) a b c d n bs tt
    (value_4 n a b c d h ea eb ec ed) (omega arith) (omega arith) (omega arith) (omega arith) (omega arith) (omega arith) (omega arith) (omega arith)
reads_4 n a b c d bs l h ea eb ec ed (inr x) (inl y) =
    read_4 (take 7 sequences) (drop 8 sequences) (octets 0xF1 0xF3) tail a b c d n bs tt
    (value_4 n a b c d h ea eb ec ed) (omega arith) (omega arith) (omega arith) (omega arith) (omega arith) (omega arith) (omega arith) (omega arith)
reads_4 n a b c d bs l h ea eb ec ed (inr x) (inr y) =
    read_4 (take 8 sequences) (drop 9 sequences) (octets 0xF4 0xF4) (octets 0x80 0x8F) a b c d n bs tt
    (value_4 n a b c d h ea eb ec ed) (omega arith) (omega arith) (omega arith) (omega arith) (omega arith) (omega arith) (omega arith) (omega arith)

pub reads_1 : (n : ℕ) (bs : List ℕ) → n < 0x80 → read_by sequences (n ∷ bs) ≡ character n 1
reads_1 n bs h = taken (octets 0x00 0x7F ∷ []) (drop 1 sequences) (n ∷ bs) (rw (le-leb 0x00 n (omega arith), le-leb n 0x7F (omega arith)))

reads_2 : (n a b : ℕ) (bs : List ℕ) → 0x80 ≤ n → n < 0x800 → a ≡ 0xC0 + n / 0x40 → b ≡ 0x80 + n % 0x40 → read_by sequences (a ∷ b ∷ bs) ≡ character n 2
reads_2 n a b bs l h ea eb =
    let a0 : 0xC2 ≤ a = omega arith in
    let v : a % 0x20 * 0x40 + b % 0x40 ≡ n = omega arith in
    passed (take 1 sequences) (drop 1 sequences) 0xC2 a (b ∷ bs) tt a0
    ∙ taken (octets 0xC2 0xDF ∷ tail ∷ []) (drop 2 sequences) (a ∷ b ∷ bs)
    (rw (le-leb 0xC2 a a0, le-leb a 0xDF (omega arith), le-leb 0x80 b (omega arith), le-leb b 0xBF (omega arith)))
    ∙ ap (λ (m : ℕ). character m 2) v

-- the encoding's bytes, and reading them, by the value's range
encoded : (c : ℕ) (rest : List ℕ) → Scalar c → (c < 0x80) ⊎ (0x80 ≤ c) → (c < 0x800) ⊎ (0x800 ≤ c) → (c < 0x10000) ⊎ (0x10000 ≤ c)
    → read_from (encode c ++ rest) ≡ character c (length (encode c))
unfolding read_from
encoded c rest s (inl x) y z = rw (encode_1 c x) (reads_1 c rest x)
encoded c rest s (inr x) (inl y) z = rw (encode_2 c x y) (reads_2 c _ _ rest x y refl refl)
encoded c rest s (inr x) (inr y) (inl z) = rw (encode_3 c y z) (reads_3 c _ _ _ rest y z refl refl refl (below c 0x1000) (below c 0xD000) s)
encoded c rest (inl s) (inr x) (inr y) (inr z) = absurd (omega arith)
encoded c rest (inr s) (inr x) (inr y) (inr z) = rw (encode_4 c z) (reads_4 c _ _ _ _ rest z s.1 refl refl refl refl (below c 0x40000) (below c 0x100000))

pub reads_encodings : ReadsEncodings
reads_encodings c rest s = encoded c rest s (below c 0x80) (below c 0x800) (below c 0x10000) ∙ ap (char c (length (encode c))) (units_encoded c)
