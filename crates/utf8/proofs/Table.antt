-- The claims on the table's rows. Reading tries one row after the other, so what is read is read by the first that fits; and a second one that fits would
-- have the same lead byte, but each row's lead octets are above those of the rows before it.
-- Assumes nothing.
use mathlib.Core.Path.{◌≡◌, refl, sym, ap, ◌∙◌}
use mathlib.Core.Bool.{Bool, true, false, cond, ◌&&◌, ◌||◌}
use mathlib.Core.List.{List, [], ◌∷◌, Memᴰ}
use Prim.Native.Nat.{ℕ, suc, ◌≤◌}
use native.Mathlib.Omega.{arith}
use lib.Dec.{T, leb}
use lib.ListN.{length, take}
use Rattle.utf8.specs.Characters.{Read, char, Octets, sequences, starts_with, character_number, character, read_by, read_from}
use Rattle.utf8.specs.Rows.{any_row}
use Rattle.utf8.specs.Claims.{NineRows, is_character, ReadExactlyByRows, ReadByItsRow, OneRowOnly}
use Rattle.utf8.proofs.Encodings.{both, octet, same_char}
use Rattle.utf8.proofs.Rows.{leads_from}

pub nine_rows : NineRows
nine_rows = refl

-- ---- a character is read exactly where some row fits

either : (fits : Bool) (c w : ℕ) (other : Read) → is_character (cond fits (character c w) other) ≡ (fits || is_character other)
either true c w other = refl
either false c w other = refl

by_rows : (rows : List (List Octets)) (bs : List ℕ) → is_character (read_by rows bs) ≡ any_row rows bs
by_rows [] bs = refl
by_rows (row ∷ rows) bs =
    either (starts_with row bs) (character_number (take (length row) bs)) (length row) (read_by rows bs)
    ∙ ap (λ (x : Bool). starts_with row bs || x) (by_rows rows bs)

pub read_exactly_by_rows : ReadExactlyByRows
unfolding read_from
read_exactly_by_rows [] = refl
read_exactly_by_rows (b ∷ bs) = by_rows sequences (b ∷ bs)

-- ---- by which one

abbrev Among : List (List Octets) → List ℕ → ℕ → ℕ → Type 0
Among rows bs c w = (row : List Octets) × Memᴰ row rows × (starts_with row bs ≡ true) × (w ≡ length row) × (c ≡ character_number (take w bs))

first_that_fits : (rows : List (List Octets)) (bs : List ℕ) (c w u : ℕ) → read_by rows bs ≡ char c w u → Among rows bs c w
first_that_fits [] bs c w u e = let z : ◌≡◌ {A = ℕ} 0 1 = cc in absurd (omega arith)
first_that_fits (row ∷ rows) bs c w u e = go (starts_with row bs) refl e (first_that_fits rows bs c w u)
  where
    go : (t : Bool) → starts_with row bs ≡ t → cond t (character (character_number (take (length row) bs)) (length row)) (read_by rows bs) ≡ char c w u
        → (read_by rows bs ≡ char c w u → Among rows bs c w) → Among (row ∷ rows) bs c w
    go true fits is later =
        let same = same_char is in
        (row, Memᴰ.head refl, fits, sym same.1, sym same.0 ∙ ap (λ (k : ℕ). character_number (take k bs)) same.1)
    go false fits is later = let one = later is in (one.0, Memᴰ.tail one.1, one.2, one.3, one.4)

pub read_by_its_row : ReadByItsRow
unfolding read_from
read_by_its_row [] c w u e = let z : ◌≡◌ {A = ℕ} 0 1 = cc in absurd (omega arith)
read_by_its_row (b ∷ bs) c w u e =
    let one = first_that_fits sequences (b ∷ bs) c w u e in
    record { row = one.0; in_table = one.1; begins = one.2; width = one.3; value = one.4 }

-- ---- and by no other

-- each row's lead octets are above those of the rows before it
abbrev leads_rise : List (List Octets) → Bool
leads_rise [] = true
leads_rise ([] ∷ rows) = false
leads_rise ((r ∷ rs) ∷ rows) = leads_from rows (suc r.last) && leads_rise rows

-- so a row does not begin where one before it does
later_lead : (rows : List (List Octets)) (m a : ℕ) (bs : List ℕ) (row : List Octets) → T (leads_from rows m) → Memᴰ row rows
    → starts_with row (a ∷ bs) ≡ true → m ≤ a
later_lead [] m a bs row h k e = elim k [ ]
later_lead ([] ∷ rows) m a bs row h k e = absurd h
later_lead ((r ∷ rs) ∷ rows) m a bs row h (Memᴰ.head is) e =
    let p = both (leb m r.first) (leads_from rows m) h in
    let q : m ≤ r.first = lib.Dec.leb→le _ _ p.0 in
    let fits : starts_with (r ∷ rs) (a ∷ bs) ≡ true = rw is at e in
    let b = octet r a (starts_with rs bs) (rw fits tt) in
    omega arith
later_lead ((r ∷ rs) ∷ rows) m a bs row h (Memᴰ.tail k) e = later_lead rows m a bs row (both (leb m r.first) (leads_from rows m) h).1 k e

first_lead : (r : Octets) (rs : List Octets) (a : ℕ) (bs : List ℕ) (row : List Octets) → row ≡ r ∷ rs → starts_with row (a ∷ bs) ≡ true → a ≤ r.last
first_lead r rs a bs row is e =
    let fits : starts_with (r ∷ rs) (a ∷ bs) ≡ true = rw is at e in (octet r a (starts_with rs bs) (rw fits tt)).1

same_row : (rows : List (List Octets)) (a : ℕ) (bs : List ℕ) (row other : List Octets) → T (leads_rise rows) → Memᴰ row rows → Memᴰ other rows
    → starts_with row (a ∷ bs) ≡ true → starts_with other (a ∷ bs) ≡ true → row ≡ other
same_row [] a bs row other h k m e f = elim k [ ]
same_row ([] ∷ rows) a bs row other h k m e f = absurd h
same_row ((r ∷ rs) ∷ rows) a bs row other h (Memᴰ.head is) (Memᴰ.head same) e f = is ∙ sym same
same_row ((r ∷ rs) ∷ rows) a bs row other h (Memᴰ.head is) (Memᴰ.tail m) e f =
    let p = both (leads_from rows (suc r.last)) (leads_rise rows) h in
    let low = first_lead r rs a bs row is e in
    let high = later_lead rows (suc r.last) a bs other p.0 m f in
    absurd (omega arith)
same_row ((r ∷ rs) ∷ rows) a bs row other h (Memᴰ.tail k) (Memᴰ.head same) e f =
    let p = both (leads_from rows (suc r.last)) (leads_rise rows) h in
    let low = first_lead r rs a bs other same f in
    let high = later_lead rows (suc r.last) a bs row p.0 k e in
    absurd (omega arith)
same_row ((r ∷ rs) ∷ rows) a bs row other h (Memᴰ.tail k) (Memᴰ.tail m) e f =
    same_row rows a bs row other (both (leads_from rows (suc r.last)) (leads_rise rows) h).1 k m e f

-- a row has octets, so bytes that begin with it are some
no_bytes : (rows : List (List Octets)) (row : List Octets) → T (leads_rise rows) → Memᴰ row rows → starts_with row [] ≡ true → ⊥
no_bytes [] row h k e = elim k [ ]
no_bytes ([] ∷ rows) row h k e = absurd h
no_bytes ((r ∷ rs) ∷ rows) row h (Memᴰ.head is) e =
    let fits : starts_with (r ∷ rs) [] ≡ true = rw is at e in let z : ◌≡◌ {A = ℕ} 0 1 = cc in omega arith
no_bytes ((r ∷ rs) ∷ rows) row h (Memᴰ.tail k) e = no_bytes rows row (both (leads_from rows (suc r.last)) (leads_rise rows) h).1 k e

pub one_row_only : OneRowOnly
one_row_only [] row other k m e f = absurd (no_bytes sequences row tt k e)
one_row_only (a ∷ bs) row other k m e f = same_row sequences a bs row other tt k m e f
