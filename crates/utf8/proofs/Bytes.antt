-- Reading without tests, in a text that is known to be well formed. What stands at a position of it is the encoding of a scalar value, so the lead byte says
-- how many bytes there are, and they spell the value and what marks the bytes.
-- Assumes nothing.
use mathlib.Core.Path.{◌≡◌, refl, sym, ap, ◌∙◌}
use mathlib.Core.Logic.{◌⊎◌, inl, inr}
use mathlib.Core.List.{List, [], ◌∷◌, ◌++◌}
use mathlib.Core.Option.{IsSome}
use Prim.Native.Nat.{ℕ, suc, ◌+◌, ◌-◌, ◌*◌, ◌/◌, ◌%◌, ◌≤◌, ◌<◌}
use native.Mathlib.Omega.{arith}
use lib.ListN.{length, get_or, drop, length-drop}
use lib.Seq.{drop-cons, get_or-drop}
use Rattle.std.specs.Prelude.{Ok, Err, Some, None}
use Rattle.utf8.specs.Characters.{Read, char, ended, read_from, character_at}
use Rattle.utf8.specs.Encoding.{Scalar, encode}
use Rattle.utf8.specs.Text.{chars_from}
use Rattle.utf8.specs.Utf16.{units_of}
use Rattle.utf8.proofs.Utf16.{one_unit, two_units, units_encoded}
use Rattle.utf8.proofs.Encodings.{below, digits_3, digits_4, encode_1, encode_2, encode_3, encode_4, reads_only_encodings}
use Rattle.utf8.proofs.Texts.{end_nil, chars_malformed}

-- ---- what an encoding of two, three or four bytes makes of a lead byte and the bytes after it

pub record Two (b0 : ℕ) (bs : List ℕ) (c : ℕ) : Type 0 where
  pub from : 0x80 ≤ c
  pub to : c < 0x800
  pub lead : b0 ≡ 0xC0 + c / 0x40
  pub room : 1 ≤ length bs
  pub second : get_or bs 0 0 ≡ 0x80 + c % 0x40

pub record Three (b0 : ℕ) (bs : List ℕ) (c : ℕ) : Type 0 where
  pub from : 0x800 ≤ c
  pub to : c < 0x10000
  pub whole : c / 0x800 ≡ 27 → ⊥
  pub lead : b0 ≡ 0xE0 + c / 0x1000
  pub room : 2 ≤ length bs
  pub second : get_or bs 0 0 ≡ 0x80 + c / 0x40 % 0x40
  pub third : get_or bs 1 0 ≡ 0x80 + c % 0x40

pub record Four (b0 : ℕ) (bs : List ℕ) (c : ℕ) : Type 0 where
  pub from : 0x10000 ≤ c
  pub to : c ≤ 0x10FFFF
  pub lead : b0 ≡ 0xF0 + c / 0x40000
  pub room : 3 ≤ length bs
  pub second : get_or bs 0 0 ≡ 0x80 + c / 0x1000 % 0x40
  pub third : get_or bs 1 0 ≡ 0x80 + c / 0x40 % 0x40
  pub fourth : get_or bs 2 0 ≡ 0x80 + c % 0x40

-- no surrogate is a scalar value
not_surrogate : (c : ℕ) → Scalar c → c / 0x800 ≡ 27 → ⊥
not_surrogate c (inl h) e = omega arith
not_surrogate c (inr h) e = omega arith

-- the bytes after the first, of an encoding of two bytes; of three; of four
module _ (b0 : ℕ) (bs rest : List ℕ) where
  as_two : (c x y : ℕ) → encode c ≡ x ∷ y ∷ [] → encode c ++ rest ≡ b0 ∷ bs → (b0 ≡ x) × (bs ≡ y ∷ rest)
  as_two c x y e q = let p : x ∷ y ∷ rest ≡ b0 ∷ bs = rw e at q in (cc, cc)

  as_three : (c x y z : ℕ) → encode c ≡ x ∷ y ∷ z ∷ [] → encode c ++ rest ≡ b0 ∷ bs → (b0 ≡ x) × (bs ≡ y ∷ z ∷ rest)
  as_three c x y z e q = let p : x ∷ y ∷ z ∷ rest ≡ b0 ∷ bs = rw e at q in (cc, cc)

  as_four : (c x y z u : ℕ) → encode c ≡ x ∷ y ∷ z ∷ u ∷ [] → encode c ++ rest ≡ b0 ∷ bs → (b0 ≡ x) × (bs ≡ y ∷ z ∷ u ∷ rest)
  as_four c x y z u e q = let p : x ∷ y ∷ z ∷ u ∷ rest ≡ b0 ∷ bs = rw e at q in (cc, cc)

-- a value whose encoding begins the bytes, by how many of them it takes
module _ (P : Type 0) (b0 : ℕ) (bs : List ℕ) (c : ℕ) (rest : List ℕ) (e : encode c ++ rest ≡ b0 ∷ bs)
    (one : c < 0x80 → c ≡ b0 → length (encode c) ≡ 1 → P)
    (two : Two b0 bs c → length (encode c) ≡ 2 → P)
    (three : Three b0 bs c → length (encode c) ≡ 3 → P)
    (four : Four b0 bs c → length (encode c) ≡ 4 → P) where
  by_range : Scalar c → (c < 0x80) ⊎ (0x80 ≤ c) → (c < 0x800) ⊎ (0x800 ≤ c) → (c < 0x10000) ⊎ (0x10000 ≤ c) → P
  by_range s (inl x) y z = let p : c ∷ rest ≡ b0 ∷ bs = rw (encode_1 c x) at e in let same : c ≡ b0 = cc in one x same (ap length (encode_1 c x))
  by_range s (inr x) (inl y) z =
      let p = as_two b0 bs rest c _ _ (encode_2 c x y) e in
      two (record { from = x; to = y; lead = p.0; room = rw p.1 (omega arith); second = rw p.1 }) (ap length (encode_2 c x y))
  by_range s (inr x) (inr y) (inl z) =
      let p = as_three b0 bs rest c _ _ _ (encode_3 c y z) e in
      three (record {
        from = y;
        to = z;
        whole = not_surrogate c s;
        lead = p.0;
        room = rw p.1 (omega arith);
        second = rw p.1;
        third =
            rw p.1;
      }) (ap length (encode_3 c y z))
  by_range (inl s) (inr x) (inr y) (inr z) = absurd (omega arith)
  by_range (inr s) (inr x) (inr y) (inr z) =
      let p = as_four b0 bs rest c _ _ _ _ (encode_4 c z) e in
      four (record { from = z; to = s.1; lead = p.0; room = rw p.1 (omega arith); second = rw p.1; third = rw p.1; fourth = rw p.1 })
      (ap length (encode_4 c z))

  by_width : Scalar c → P
  by_width s = by_range s (below c 0x80) (below c 0x800) (below c 0x10000)

-- the bytes of an encoding, six bits after six bits, spell the value and what marks the bytes
module _ (b0 : ℕ) (bs : List ℕ) (x : ℕ) where
  pub spelled_2 : Two b0 bs x → b0 * 0x40 + get_or bs 0 0 ≡ x + 0x3080
  spelled_2 t = omega (arith, t.lead, t.second)

  pub spelled_3 : Three b0 bs x → (b0 * 0x40 + get_or bs 0 0) * 0x40 + get_or bs 1 0 ≡ x + 0xE2080
  spelled_3 t = rw (t.lead, t.second, t.third) (omega (arith, digits_3 x))

  pub spelled_4 : Four b0 bs x → ((b0 * 0x40 + get_or bs 0 0) * 0x40 + get_or bs 1 0) * 0x40 + get_or bs 2 0 ≡ x + 0x3C82080
  spelled_4 t = rw (t.lead, t.second, t.third, t.fourth) (omega (arith, digits_4 x))

-- ---- a text that is known to be well formed: its first byte says how many there are, and they spell the value

-- n bytes, six bits after six bits, spell the character at a position, above a part m that is the same for all that take n bytes; and these take u units
abbrev pub Spells : List ℕ → ℕ → ℕ → ℕ → ℕ → ℕ → Type 0
Spells s at bytes m n u = (m ≤ bytes) × (character_at s at ≡ char (bytes - m) n u)

module _ (s : List ℕ) (at : ℕ) (within : at < length s) (some_chars : IsSome (chars_from s at)) (b0 : ℕ) (e0 : b0 ≡ get_or s at 0) where
  abbrev later : List ℕ
  later = drop (suc at) s

  module _ (P : Type 0)
      (one : b0 < 0x80 → character_at s at ≡ char b0 1 1 → P)
      (two : (c : ℕ) → Two b0 later c → character_at s at ≡ char c 2 1 → P)
      (three : (c : ℕ) → Three b0 later c → character_at s at ≡ char c 3 1 → P)
      (four : (c : ℕ) → Four b0 later c → character_at s at ≡ char c 4 2 → P) where
    by_lead : P
    unfolding character_at chars_from
    by_lead = go (character_at s at) refl
      where
        go : (r : Read) → character_at s at ≡ r → P
        go (Ok (Some r)) e =
            let c : ℕ = r.value in
            let w : ℕ = r.width in
            let u : ℕ = r.units in
            let q = reads_only_encodings (drop at s) c w u e in
            let sized : (n m : ℕ) → length (encode c) ≡ n → units_of c ≡ m → character_at s at ≡ char c n m =
            λ n m l k. e ∙ ap (λ (x : ℕ). char c x u) (sym q.1 ∙ l) ∙ ap (char c n) (sym q.3 ∙ sym (units_encoded c) ∙ k) in
            by_width P b0 later c (drop w (drop at s)) (q.2 ∙ drop-cons s at 0 within ∙ rw (← e0))
            (λ l same n. one (omega arith) (sized 1 1 n (one_unit c (omega arith)) ∙ ap (λ (x : ℕ). char x 1 1) same))
            (λ t n. two c t (sized 2 1 n (one_unit c (omega (arith, t.to)))))
            (λ t n. three c t (sized 3 1 n (one_unit c t.to)))
            (λ t n. four c t (sized 4 2 n (two_units c t.from)))
            q.0
        go (Err x) e = absurd (rw (chars_malformed (drop at s) e) at some_chars)
        go (Ok None) e = let n : length (drop at s) ≡ 0 = ap length (end_nil (drop at s) e) in absurd (omega (arith, length-drop at s))

  -- how many bytes there are
  pub second_within : 0x80 ≤ b0 → at + 1 < length s
  second_within h =
      by_lead (at + 1 < length s)
      (λ low e. absurd (omega arith))
      (λ c t e. omega (arith, t.room, length-drop (suc at) s))
      (λ c t e. omega (arith, t.room, length-drop (suc at) s))
      (λ c t e. omega (arith, t.room, length-drop (suc at) s))

  pub third_within : 0xE0 ≤ b0 → at + 2 < length s
  third_within h =
      by_lead (at + 2 < length s)
      (λ low e. absurd (omega arith))
      (λ c t e. absurd (omega (arith, t.lead, t.to)))
      (λ c t e. omega (arith, t.room, length-drop (suc at) s))
      (λ c t e. omega (arith, t.room, length-drop (suc at) s))

  pub fourth_within : 0xF0 ≤ b0 → at + 3 < length s
  fourth_within h =
      by_lead (at + 3 < length s)
      (λ low e. absurd (omega arith))
      (λ c t e. absurd (omega (arith, t.lead, t.to)))
      (λ c t e. absurd (omega (arith, t.lead, t.to)))
      (λ c t e. omega (arith, t.room, length-drop (suc at) s))

  spells : (bytes m n u c : ℕ) → bytes ≡ c + m → character_at s at ≡ char c n u → Spells s at bytes m n u
  spells bytes m n u c e read = let v : c ≡ bytes - m = omega arith in (omega arith, read ∙ ap (λ (x : ℕ). char x n u) v)

  pub next_1 : b0 < 0x80 → character_at s at ≡ char b0 1 1
  next_1 h =
      by_lead (character_at s at ≡ char b0 1 1)
      (λ l e. e)
      (λ c t e. absurd (omega (arith, t.lead)))
      (λ c t e. absurd (omega (arith, t.lead)))
      (λ c t e. absurd (omega (arith, t.lead)))

  -- the byte at a position after the first
  byte : (i j b : ℕ) → j ≡ suc at + i → b ≡ get_or s j 0 → get_or later i 0 ≡ b
  byte i j b e is = get_or-drop (suc at) s i 0 ∙ rw (is, e)

  module _ (b1 : ℕ) (e1 : b1 ≡ get_or s (at + 1) 0) where
    pub next_2 : 0x80 ≤ b0 → b0 < 0xE0 → Spells s at (b0 * 0x40 + b1) 0x3080 2 1
    next_2 l h =
        by_lead (Spells s at (b0 * 0x40 + b1) 0x3080 2 1)
        (λ low e. absurd (omega arith))
        (λ c t e. spells _ _ _ _ c (omega (arith, spelled_2 b0 later c t, byte 0 (at + 1) b1 (omega arith) e1)) e)
        (λ c t e. absurd (omega (arith, t.lead)))
        (λ c t e. absurd (omega (arith, t.lead)))

    module _ (b2 : ℕ) (e2 : b2 ≡ get_or s (at + 2) 0) where
      pub next_3 : 0xE0 ≤ b0 → b0 < 0xF0 → Spells s at ((b0 * 0x40 + b1) * 0x40 + b2) 0xE2080 3 1
      next_3 l h =
          by_lead (Spells s at ((b0 * 0x40 + b1) * 0x40 + b2) 0xE2080 3 1)
          (λ low e. absurd (omega arith))
          (λ c t e. absurd (omega (arith, t.lead, t.to)))
          (λ c t e. spells _ _ _ _ c (omega (arith, spelled_3 b0 later c t, byte 0 (at + 1) b1 (omega arith) e1, byte 1 (at + 2) b2 (omega arith) e2)) e)
          (λ c t e. absurd (omega (arith, t.lead)))

      module _ (b3 : ℕ) (e3 : b3 ≡ get_or s (at + 3) 0) where
        pub next_4 : 0xF0 ≤ b0 → Spells s at (((b0 * 0x40 + b1) * 0x40 + b2) * 0x40 + b3) 0x3C82080 4 2
        next_4 l =
            by_lead (Spells s at (((b0 * 0x40 + b1) * 0x40 + b2) * 0x40 + b3) 0x3C82080 4 2)
            (λ low e. absurd (omega arith))
            (λ c t e. absurd (omega (arith, t.lead, t.to)))
            (λ c t e. absurd (omega (arith, t.lead, t.to)))
            (λ c t e. spells _ _ _ _ c (omega (
              arith,
              spelled_4 b0 later c t,
              byte 0 (at + 1) b1 (omega arith) e1,
              byte 1 (at + 2) b2 (omega arith) e2,
              byte 2 (at + 3) b3 (omega arith) e3,
            )) e)

pub at_end : (s : List ℕ) (at : ℕ) → length s ≤ at → ended ≡ character_at s at
unfolding character_at read_from
at_end s at h = rw (lib.ListN.drop_of_length-le s h)
