-- Rows by their lead octets, which rise from row to row: where a lead byte is below those of some rows, the bytes begin with none
-- of them.
-- Assumes nothing.
use mathlib.Core.Path.{◌≡◌, refl}
use mathlib.Core.Bool.{Bool, true, false, ◌&&◌, ◌||◌}
use mathlib.Core.List.{List, [], ◌∷◌}
use Prim.Native.Nat.{ℕ, ◌≤◌, ◌<◌}
use native.Mathlib.Omega.{arith}
use borrow.Author.Tests.{lt-leb}
use lib.Dec.{T, leb}
use Rattle.utf8.specs.Characters.{malformed, Octets, starts_with, read_by}
use Rattle.utf8.specs.Rows.{any_row}
use Rattle.utf8.proofs.Encodings.{both}

-- the lead octets of these rows are all from m on
abbrev pub leads_from : List (List Octets) → ℕ → Bool
leads_from [] m = true
leads_from ([] ∷ rows) m = false
leads_from ((r ∷ rs) ∷ rows) m = leb m r.first && leads_from rows m

-- a lead byte that is below those of all rows
pub none_above : (rows : List (List Octets)) (m a : ℕ) (bs : List ℕ) → T (leads_from rows m) → a < m → any_row rows (a ∷ bs) ≡ false
none_above [] m a bs h l = refl
none_above ([] ∷ rows) m a bs h l = absurd h
none_above ((r ∷ rs) ∷ rows) m a bs h l =
    let p = both (leb m r.first) (leads_from rows m) h in
    let q : m ≤ r.first = lib.Dec.leb→le _ _ p.0 in
    rw (lt-leb r.first a (omega arith)) (none_above rows m a bs p.1 l)

-- where no row fits nothing is read
pub none_read : (rows : List (List Octets)) (bs : List ℕ) → any_row rows bs ≡ false → read_by rows bs ≡ malformed
none_read [] bs none = refl
none_read (row ∷ rows) bs none = go (starts_with row bs) refl none (none_read rows bs)
  where
    go : (t : Bool) → starts_with row bs ≡ t → (t || any_row rows bs) ≡ false → (any_row rows bs ≡ false → read_by rows bs ≡ malformed)
        → read_by (row ∷ rows) bs ≡ malformed
    go true fits some_row later = let z : ◌≡◌ {A = ℕ} 0 1 = cc in absurd (omega arith)
    go false fits none later = rw fits (later none)
