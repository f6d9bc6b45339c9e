-- Reading by the rows of one length, as the code does: the lead byte says which length, and the rows of that length differ in their first two octets alone.
-- So the character is there exactly where lead byte and second byte begin one of these rows and the others are tails; which row it is makes no difference
-- to what is read.
-- Assumes nothing.
use mathlib.Core.Path.{◌≡◌, refl, sym, ap, ◌∙◌}
use mathlib.Core.Bool.{Bool, true, false, cond, ◌&&◌, ◌||◌, and-true, and-false, and_assoc, and-or_distrib_right}
use mathlib.Core.List.{List, [], ◌∷◌, ◌++◌, map}
use mathlib.Core.Logic.{◌⊎◌, inl, inr}
use Prim.Native.Nat.{ℕ, suc, ◌+◌, ◌-◌, ◌*◌, ◌%◌, ◌≤◌, ◌<◌}
use native.Mathlib.Omega.{arith}
use native.Mathlib.Numerals.{add-one, add-two, add-three, add-four}
use borrow.Author.Tests.{le-leb}
use lib.Dec.{T, leb}
use lib.ListN.{length, get_or, take, drop, get_or-eq_default}
use lib.Seq.{drop-cons, get_or-drop}
use Rattle.std.specs.Prelude.{Result, Ok, Err}
use Rattle.utf8.specs.declared.Malformed.{Malformed}
use Rattle.utf8.specs.Characters.{Read, char, malformed, Octets, tail, sequences, starts_with, character_number, character, read_by, read_from, character_at}
use Rattle.utf8.specs.Utf16.{units_of}
use Rattle.utf8.specs.Rows.{inside, any_row, of_length, begins_row, tail_of}
use Rattle.utf8.proofs.Utf16.{one_unit, two_units}
use Rattle.utf8.proofs.Encodings.{below, from_four, both, octet, leads_below, passed, reads_1, reads_only_encodings}
use Rattle.utf8.proofs.Bytes.{Spells}
use Rattle.utf8.proofs.Rows.{leads_from, none_above, none_read}

-- ---- rows with the same tails

-- a row's first two octets
abbrev two : Octets × Octets → List Octets
two p = p.0 ∷ p.1 ∷ []

module _ (tails : List Octets) where
  abbrev row : Octets × Octets → List Octets
  row p = p.0 ∷ p.1 ∷ tails

  -- how many octets they have
  abbrev width : ℕ
  width = length (tail ∷ tail ∷ tails)

  -- the tails are tested once
  share : (x y z w : Bool) → (x && (y && z) || w && z) ≡ ((x && (y && true) || w) && z)
  share x y z w =
      sym (ap (λ (u : Bool). (x && u || w) && z) (and-true y)
      ∙ and-or_distrib_right (x && y) w z
      ∙ ap (λ (u : Bool). u || w && z) (and_assoc x y z))

  by_two : (ps : List (Octets × Octets)) (b0 b1 : ℕ) (bs : List ℕ)
      → any_row (map row ps) (b0 ∷ b1 ∷ bs) ≡ (any_row (map two ps) (b0 ∷ b1 ∷ []) && starts_with tails bs)
  by_two [] b0 b1 bs = refl
  by_two (p ∷ ps) b0 b1 bs =
      rw (by_two ps b0 b1 bs) (share (inside p.0 b0) (inside p.1 b1) (starts_with tails bs) (any_row (map two ps) (b0 ∷ b1 ∷ [])))

  -- one byte alone is too short
  too_short : (ps : List (Octets × Octets)) (b0 : ℕ) → any_row (map row ps) (b0 ∷ []) ≡ false
  too_short [] b0 = refl
  too_short (p ∷ ps) b0 = rw (and-false (inside p.0 b0)) (too_short ps b0)

  -- the row that fits is not told from the others
  either : (x y : Bool) (c other : Read) → cond x c (cond y c other) ≡ cond (x || y) c other
  either true y c other = refl
  either false y c other = refl

  by_any : (ps : List (Octets × Octets)) (post : List (List Octets)) (bs : List ℕ)
      → read_by (map row ps ++ post) bs ≡ cond (any_row (map row ps) bs) (character (character_number (take width bs)) width) (read_by post bs)
  by_any [] post bs = refl
  by_any (p ∷ ps) post bs =
      rw (by_any ps post bs)
      (either (starts_with (row p) bs) (any_row (map row ps) bs) (character (character_number (take width bs)) width) (read_by post bs))

  -- ---- a lead byte of this length

  module _ (pre post : List (List Octets)) (ps : List (Octets × Octets)) (low high : ℕ) (table : sequences ≡ pre ++ (map row ps ++ post))
      (below : T (leads_below pre low)) (above : T (leads_from post high)) (b0 : ℕ) (l : low ≤ b0) (h : b0 < high) where
    by_length : (bs : List ℕ) → read_from (b0 ∷ bs) ≡ cond (any_row (map row ps) (b0 ∷ bs)) (character (character_number (take width (b0 ∷ bs))) width) malformed
    unfolding read_from
    by_length bs =
        ap (λ (rows : List (List Octets)). read_by rows (b0 ∷ bs)) table
        ∙ passed pre (map row ps ++ post) low b0 bs below l
        ∙ by_any ps post (b0 ∷ bs)
        ∙ ap (λ (c : Read). cond (any_row (map row ps) (b0 ∷ bs)) (character (character_number (take width (b0 ∷ bs))) width) c)
        (none_read post (b0 ∷ bs) (none_above post high b0 bs above h))

    no_row : (bs : List ℕ) → any_row (map row ps) (b0 ∷ bs) ≡ false → malformed ≡ read_from (b0 ∷ bs)
    no_row bs none = sym (by_length bs ∙ rw none)

    -- the lead byte and the second byte begin no row
    pub no_beginning : (bs : List ℕ) → any_row (map two ps) (b0 ∷ get_or bs 0 0 ∷ []) ≡ false → malformed ≡ read_from (b0 ∷ bs)
    no_beginning [] none = no_row [] (too_short ps b0)
    no_beginning (b1 ∷ bs) none = no_row (b1 ∷ bs) (by_two ps b0 b1 bs ∙ rw none)

    -- a tail is missing
    pub no_tails : (bs : List ℕ) → starts_with tails (drop 1 bs) ≡ false → malformed ≡ read_from (b0 ∷ bs)
    no_tails [] none = no_row [] (too_short ps b0)
    no_tails (b1 ∷ bs) none = no_row (b1 ∷ bs) (by_two ps b0 b1 bs ∙ rw none (and-false (any_row (map two ps) (b0 ∷ b1 ∷ []))))

    pub whole_row : (b1 : ℕ) (bs : List ℕ) → any_row (map two ps) (b0 ∷ b1 ∷ []) ≡ true → starts_with tails bs ≡ true
        → character (character_number (take width (b0 ∷ b1 ∷ bs))) width ≡ read_from (b0 ∷ b1 ∷ bs)
    whole_row b1 bs begins ends =
        let fits : any_row (map row ps) (b0 ∷ b1 ∷ bs) ≡ true = by_two ps b0 b1 bs ∙ rw (begins, ends) in
        sym (by_length (b1 ∷ bs) ∙ rw fits)

-- ---- the ranges of the two bytes that begin some row

abbrev within : List (Octets × Octets) → ℕ → ℕ → Bool
within [] first last = true
within (p ∷ ps) first last =
    leb first p.0.first && leb p.0.last last && (leb 0x80 p.1.first && leb p.1.last 0xBF) && within ps first last

pub record Ranges (first last b0 b1 : ℕ) : Type 0 where
  pub lead_first : first ≤ b0
  pub lead_last : b0 ≤ last
  pub second_first : 0x80 ≤ b1
  pub second_last : b1 ≤ 0xBF

ranges : (ps : List (Octets × Octets)) (first last b0 b1 : ℕ) → T (within ps first last) → any_row (map two ps) (b0 ∷ b1 ∷ []) ≡ true → Ranges first last b0 b1
ranges [] first last b0 b1 ok e = let z : ◌≡◌ {A = ℕ} 0 1 = cc in absurd (omega arith)
ranges (p ∷ ps) first last b0 b1 ok e = go (starts_with (two p) (b0 ∷ b1 ∷ [])) refl e (ranges ps first last b0 b1 parts.1)
  where
    parts : T (leb first p.0.first && leb p.0.last last && (leb 0x80 p.1.first && leb p.1.last 0xBF)) × T (within ps first last)
    parts = both (leb first p.0.first && leb p.0.last last && (leb 0x80 p.1.first && leb p.1.last 0xBF)) (within ps first last) ok

    go : (t : Bool) → starts_with (two p) (b0 ∷ b1 ∷ []) ≡ t → (t || any_row (map two ps) (b0 ∷ b1 ∷ [])) ≡ true
        → (any_row (map two ps) (b0 ∷ b1 ∷ []) ≡ true → Ranges first last b0 b1) → Ranges first last b0 b1
    go true fits some_row later =
        let leads = both (leb first p.0.first && leb p.0.last last) (leb 0x80 p.1.first && leb p.1.last 0xBF) parts.0 in
        let lead = both (leb first p.0.first) (leb p.0.last last) leads.0 in
        let tails = both (leb 0x80 p.1.first) (leb p.1.last 0xBF) leads.1 in
        let a : first ≤ p.0.first = lib.Dec.leb→le _ _ lead.0 in
        let b : p.0.last ≤ last = lib.Dec.leb→le _ _ lead.1 in
        let c : 0x80 ≤ p.1.first = lib.Dec.leb→le _ _ tails.0 in
        let d : p.1.last ≤ 0xBF = lib.Dec.leb→le _ _ tails.1 in
        let x = octet p.0 b0 (starts_with (p.1 ∷ []) (b1 ∷ [])) (rw fits tt) in
        let y = octet p.1 b1 true x.2 in
        record { lead_first = omega arith; lead_last = omega arith; second_first = omega arith; second_last = omega arith }
    go false fits some_row later = later some_row

-- ---- a tail

-- a byte that is one, and one that is none
module _ (b : ℕ) where
  pub is_tail : 0x80 ≤ b → b ≤ 0xBF → inside tail b ≡ true
  is_tail l h = rw (le-leb 0x80 b l, le-leb b 0xBF h)

  -- what `tail_of` says
  pub no_tail : (e : Malformed) → Err e ≡ tail_of b → inside tail b ≡ false
  no_tail e none = go (inside tail b) refl none
    where
      go : (t : Bool) → inside tail b ≡ t → ◌≡◌ {A = Result ℕ Malformed} (Err e) (cond t (Ok b) (Err (record {}))) → inside tail b ≡ false
      go true is none = let z : ◌≡◌ {A = ℕ} 0 1 = cc in absurd (omega arith)
      go false is none = is

  pub a_tail : (r : ℕ) → Ok r ≡ tail_of b → (r ≡ b) × (0x80 ≤ b) × (b ≤ 0xBF)
  a_tail r some_byte = go (inside tail b) refl some_byte
    where
      go : (t : Bool) → inside tail b ≡ t → ◌≡◌ {A = Result ℕ Malformed} (Ok r) (cond t (Ok b) (Err (record {}))) → (r ≡ b) × (0x80 ≤ b) × (b ≤ 0xBF)
      go true is some_byte = let x = octet tail b true (rw is tt) in (cc, x.0, x.1)
      go false is some_byte = let z : ◌≡◌ {A = ℕ} 0 1 = cc in absurd (omega arith)

-- the bytes after the second, where one that has to be a tail is none
first_missing : (ts : List Octets) (bs : List ℕ) → inside tail (get_or bs 0 0) ≡ false → starts_with (tail ∷ ts) bs ≡ false
first_missing ts [] none = refl
first_missing ts (b ∷ bs) none = rw none

second_missing : (ts : List Octets) (bs : List ℕ) → inside tail (get_or bs 1 0) ≡ false → starts_with (tail ∷ tail ∷ ts) bs ≡ false
second_missing ts [] none = refl
second_missing ts (b ∷ bs) none = rw (first_missing ts bs (next bs none)) (and-false (inside tail b))
  where
    next : (cs : List ℕ) → inside tail (get_or (b ∷ cs) 1 0) ≡ false → inside tail (get_or cs 0 0) ≡ false
    next cs e = e

-- ---- what four bytes spell

four_spelled : (b0 b1 b2 b3 : ℕ) → 0xF0 ≤ b0 → b0 ≤ 0xF4 → 0x80 ≤ b1 → b1 ≤ 0xBF → 0x80 ≤ b2 → b2 ≤ 0xBF → 0x80 ≤ b3 → b3 ≤ 0xBF
    → (0x3C82080 ≤ ((b0 * 0x40 + b1) * 0x40 + b2) * 0x40 + b3)
    × (((b0 * 0x40 + b1) * 0x40 + b2) * 0x40 + b3 - 0x3C82080 ≡ b0 % 0x08 * 0x40000 + b1 % 0x40 * 0x1000 + b2 % 0x40 * 0x40 + b3 % 0x40)
four_spelled b0 b1 b2 b3 l0 h0 l1 h1 l2 h2 l3 h3 =
    spelled b0 b1 b2 b3 (b0 % 0x08) (b1 % 0x40) (b2 % 0x40) (b3 % 0x40) (omega arith) (omega arith) (omega arith) (omega arith)
  where
    spelled : (b0 b1 b2 b3 x0 x1 x2 x3 : ℕ) → b0 ≡ x0 + 0xF0 → b1 ≡ x1 + 0x80 → b2 ≡ x2 + 0x80 → b3 ≡ x3 + 0x80
        → (0x3C82080 ≤ ((b0 * 0x40 + b1) * 0x40 + b2) * 0x40 + b3)
        × (((b0 * 0x40 + b1) * 0x40 + b2) * 0x40 + b3 - 0x3C82080 ≡ x0 * 0x40000 + x1 * 0x1000 + x2 * 0x40 + x3)
    spelled b0 b1 b2 b3 x0 x1 x2 x3 e0 e1 e2 e3 = (omega arith, omega arith)

-- ---- at a position of a text

-- the first two octets of the rows of so many
abbrev pairs_of : ℕ → List (Octets × Octets)
pairs_of n = map (λ (r : List Octets). (get_or r 0 tail, get_or r 1 tail)) (of_length n sequences)

-- a byte that is not 0 lies within the text
in_text : (s : List ℕ) (j : ℕ) → 1 ≤ get_or s j 0 → j < length s
in_text s j some_byte = go (below j (length s))
  where
    go : (j < length s) ⊎ (length s ≤ j) → j < length s
    go (inl h) = h
    go (inr h) = let z : get_or s j 0 ≡ 0 = get_or-eq_default s 0 h in absurd (omega arith)

module _ (s : List ℕ) (at b0 : ℕ) (e0 : b0 ≡ get_or s at 0) (h : at < length s) where
  abbrev later : List ℕ
  later = drop (suc at) s

  from_1 : drop at s ≡ b0 ∷ later
  from_1 = drop-cons s at 0 h ∙ rw (← e0)

  -- the bytes after the first, and those after the second
  after_first : (i j : ℕ) → suc at + i ≡ j → get_or later i 0 ≡ get_or s j 0
  after_first i j e = get_or-drop (suc at) s i 0 ∙ ap (λ (k : ℕ). get_or s k 0) e

  after_second : (i j : ℕ) → suc at + (1 + i) ≡ j → get_or (drop 1 later) i 0 ≡ get_or s j 0
  after_second i j e = get_or-drop 1 later i 0 ∙ after_first (1 + i) j e

  at_position : (c : Read) → c ≡ read_from (b0 ∷ later) → c ≡ character_at s at
  unfolding character_at
  at_position c e = e ∙ ap read_from (sym from_1)

  pub at_1 : b0 < 0x80 → char b0 1 1 ≡ character_at s at
  unfolding read_from
  at_1 l = at_position (char b0 1 1) (ap (char b0 1) (sym (one_unit b0 (omega arith))) ∙ sym (reads_1 b0 later l))

  module _ (b1 : ℕ) (e1 : b1 ≡ get_or s (at + 1) 0) where
    second : get_or later 0 0 ≡ b1
    second = after_first 0 (at + 1) (omega arith) ∙ sym e1

    from_2 : at + 1 < length s → drop at s ≡ b0 ∷ b1 ∷ drop (at + 2) s
    from_2 k = from_1 ∙ rw (add-two, e1, add-one) (ap (λ (x : List ℕ). b0 ∷ x) (drop-cons s (suc at) 0 (omega arith)))

    from_3 : (b2 : ℕ) → b2 ≡ get_or s (at + 2) 0 → at + 2 < length s → drop at s ≡ b0 ∷ b1 ∷ b2 ∷ drop (at + 3) s
    from_3 b2 e2 k = from_2 (omega arith) ∙ rw (add-three, e2, add-two) (ap (λ (x : List ℕ). b0 ∷ b1 ∷ x) (drop-cons s (suc (suc at)) 0 (omega arith)))

    from_4 : (b2 : ℕ) → b2 ≡ get_or s (at + 2) 0 → (b3 : ℕ) → b3 ≡ get_or s (at + 3) 0 → at + 3 < length s
        → drop at s ≡ b0 ∷ b1 ∷ b2 ∷ b3 ∷ drop (at + 4) s
    from_4 b2 e2 b3 e3 k =
        from_3 b2 e2 (omega arith) ∙ rw (add-four, e3, add-three) (ap (λ (x : List ℕ). b0 ∷ b1 ∷ b2 ∷ x) (drop-cons s (suc (suc (suc at))) 0 (omega arith)))

    -- two bytes
    module _ (l : 0x80 ≤ b0) (u : b0 < 0xE0) where
      pub not_two : begins_row 2 b0 b1 ≡ false → malformed ≡ character_at s at
      not_two none =
          at_position malformed
          (no_beginning [] (take 1 sequences) (drop 2 sequences) (pairs_of 2) 0x80 0xE0 refl tt tt b0 l u later (rw second none))

      pub is_two : begins_row 2 b0 b1 ≡ true → Spells s at (b0 * 0x40 + b1) 0x3080 2 1
      unfolding character_at
      is_two begins =
          let r = ranges (pairs_of 2) 0xC2 0xDF b0 b1 tt begins in
          let k : at + 1 < length s = in_text s (at + 1) (omega (arith, r.second_first)) in
          let v : b0 * 0x40 + b1 - 0x3080 ≡ b0 % 0x20 * 0x40 + b1 % 0x40 = omega (arith, r) in (
            omega (arith, r),
            sym (ap (λ (c : ℕ). char c 2 1) v
                ∙ ap (char (b0 % 0x20 * 0x40 + b1 % 0x40) 2) (sym (one_unit (b0 % 0x20 * 0x40 + b1 % 0x40) (omega arith)))
                ∙ whole_row [] (take 1 sequences) (drop 2 sequences) (pairs_of 2) 0x80 0xE0 refl tt tt b0 l u b1 (drop (at + 2) s) begins refl
                ∙ ap read_from (sym (from_2 k))),
          )

    -- three bytes, of which the third is what `tail_of` leaves of it
    module _ (l : 0xE0 ≤ b0) (u : b0 < 0xF0) where
      pub not_three : begins_row 3 b0 b1 ≡ false → malformed ≡ character_at s at
      not_three none =
          at_position malformed
          (no_beginning (tail ∷ []) (take 2 sequences) (drop 6 sequences) (pairs_of 3) 0xE0 0xF0 refl tt tt b0 l u later (rw second none))

      pub no_third : (e : Malformed) → Err e ≡ tail_of (get_or s (at + 2) 0) → malformed ≡ character_at s at
      no_third e none =
          at_position malformed
          (no_tails (tail ∷ []) (take 2 sequences) (drop 6 sequences) (pairs_of 3) 0xE0 0xF0 refl tt tt b0 l u later
          (first_missing [] (drop 1 later) (rw (after_second 0 (at + 2) (omega arith)) (no_tail (get_or s (at + 2) 0) e none))))

      pub is_three : (b2 : ℕ) → Ok b2 ≡ tail_of (get_or s (at + 2) 0) → begins_row 3 b0 b1 ≡ true → Spells s at ((b0 * 0x40 + b1) * 0x40 + b2) 0xE2080 3 1
      unfolding character_at
      is_three b2 e2 begins =
          let r = ranges (pairs_of 3) 0xE0 0xEF b0 b1 tt begins in
          let t = a_tail (get_or s (at + 2) 0) b2 e2 in
          let x2 : b2 ≡ get_or s (at + 2) 0 = t.0 in
          let v : (b0 * 0x40 + b1) * 0x40 + b2 - 0xE2080 ≡ b0 % 0x10 * 0x1000 + b1 % 0x40 * 0x40 + b2 % 0x40 = omega (arith, r, t.1, t.2, x2) in (
            omega (arith, r, t.1, x2),
            sym (ap (λ (c : ℕ). char c 3 1) v
                ∙ ap (char (b0 % 0x10 * 0x1000 + b1 % 0x40 * 0x40 + b2 % 0x40) 3)
                (sym (one_unit (b0 % 0x10 * 0x1000 + b1 % 0x40 * 0x40 + b2 % 0x40) (omega arith)))
                ∙ whole_row (tail ∷ []) (take 2 sequences) (drop 6 sequences) (pairs_of 3) 0xE0 0xF0 refl tt tt b0 l u b1 (b2 ∷ drop (at + 3) s) begins
                (rw (is_tail b2 (omega (arith, t.1, x2)) (omega (arith, t.2, x2))))
                ∙ ap read_from (sym (from_3 b2 x2 (in_text s (at + 2) (omega (arith, t.1)))))),
          )

    -- four bytes
    module _ (l : 0xF0 ≤ b0) (u : b0 < 0x100) where
      pub not_four : begins_row 4 b0 b1 ≡ false → malformed ≡ character_at s at
      not_four none =
          at_position malformed
          (no_beginning (tail ∷ tail ∷ []) (take 6 sequences) [] (pairs_of 4) 0xF0 0x100 refl tt tt b0 l u later (rw second none))

      no_tails_of_four : starts_with (tail ∷ tail ∷ []) (drop 1 later) ≡ false → malformed ≡ character_at s at
      no_tails_of_four none = at_position malformed (no_tails (tail ∷ tail ∷ []) (take 6 sequences) [] (pairs_of 4) 0xF0 0x100 refl tt tt b0 l u later none)

      pub no_third_of_four : (e : Malformed) → Err e ≡ tail_of (get_or s (at + 2) 0) → malformed ≡ character_at s at
      no_third_of_four e none =
          no_tails_of_four
          (first_missing (tail ∷ []) (drop 1 later) (rw (after_second 0 (at + 2) (omega arith)) (no_tail (get_or s (at + 2) 0) e none)))

      pub no_fourth : (e : Malformed) → Err e ≡ tail_of (get_or s (at + 3) 0) → malformed ≡ character_at s at
      no_fourth e none =
          no_tails_of_four (second_missing [] (drop 1 later) (rw (after_second 1 (at + 3) (omega arith)) (no_tail (get_or s (at + 3) 0) e none)))

      pub is_four : (b2 b3 : ℕ) → Ok b2 ≡ tail_of (get_or s (at + 2) 0) → Ok b3 ≡ tail_of (get_or s (at + 3) 0) → begins_row 4 b0 b1 ≡ true
          → Spells s at (((b0 * 0x40 + b1) * 0x40 + b2) * 0x40 + b3) 0x3C82080 4 2
      unfolding character_at
      is_four b2 b3 e2 e3 begins =
          let r = ranges (pairs_of 4) 0xF0 0xF4 b0 b1 tt begins in
          let t = a_tail (get_or s (at + 2) 0) b2 e2 in
          let w = a_tail (get_or s (at + 3) 0) b3 e3 in
          let x2 : b2 ≡ get_or s (at + 2) 0 = t.0 in
          let x3 : b3 ≡ get_or s (at + 3) 0 = w.0 in
          let k : 0x80 ≤ b2 = omega (arith, t.1, x2) in
          let m : b2 ≤ 0xBF = omega (arith, t.2, x2) in
          let p : 0x80 ≤ b3 = omega (arith, w.1, x3) in
          let q : b3 ≤ 0xBF = omega (arith, w.2, x3) in
          let v = four_spelled b0 b1 b2 b3 l r.lead_last r.second_first r.second_last k m p q in
          let n : ℕ = b0 % 0x08 * 0x40000 + b1 % 0x40 * 0x1000 + b2 % 0x40 * 0x40 + b3 % 0x40 in
          let read : character_at s at ≡ character n 4 =
          sym (whole_row (tail ∷ tail ∷ []) (take 6 sequences) [] (pairs_of 4) 0xF0 0x100 refl tt tt b0 l u b1 (b2 ∷ b3 ∷ drop (at + 4) s) begins
          (rw (is_tail b2 k m, is_tail b3 p q))
          ∙ ap read_from (sym (from_4 b2 x2 b3 x3 (in_text s (at + 3) (omega (arith, w.1)))))) in
          let two : units_of n ≡ 2 = two_units n (from_four n (reads_only_encodings (drop at s) n 4 (units_of n) read).1) in
          (v.0, read ∙ ap (char n 4) two ∙ ap (λ (c : ℕ). char c 4 2) (sym v.1))
