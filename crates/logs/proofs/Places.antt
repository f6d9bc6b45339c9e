-- Every entry of a table that passes the test is L of its place. The test goes along the entries: k places behind the entry of n stands that of
-- n + k. So n - 1 places behind the entry of 1 stands that of n.
-- Assumes nothing.
use Prim.Native.Nat.{ℕ, zero, suc, ◌+◌, ◌-◌, ◌≤◌, ◌<◌}
use mathlib.Core.Bool.{true, and-eq-true_iff}
use mathlib.Core.List.{List, [], ◌∷◌}
use mathlib.Core.Path.{◌≡◌, ap, ◌∙◌}
use native.Mathlib.Nat.{not-suc-le-zero}
use native.Mathlib.Omega.{arith}
use lib.Dec.{eqb}
use lib.Ieee.{binary64, of_int}
use lib.IntN.{pos}
use lib.ListN.{length, get_or}
use borrow.Author.Tests.{eqb-true}
use Rattle.score.specs.Scores.{float_of}
use Rattle.score.specs.Logarithm.{L, log_of, log_float}
use Rattle.logs.specs.Table.{logs_from, is_log_table, EntryIsLogarithm}

-- the first entry is L of n, and the others pass the test from the number after n on
split : (n entry : ℕ) (entries : List ℕ) → logs_from n (entry ∷ entries) ≡ true → (eqb entry (log_of n) ≡ true) × (logs_from (suc n) entries ≡ true)
unfolding logs_from
split n entry entries tested = (and-eq-true_iff (eqb entry (log_of n)) (logs_from (suc n) entries)).0 tested

further : (k n : ℕ) (table : List ℕ) → logs_from n table ≡ true → k < length table → get_or table k 0 ≡ log_of (n + k)
further k n [] tested inside = absurd (not-suc-le-zero inside)
further zero n (entry ∷ entries) tested inside =
    let same : n ≡ n + 0 = omega arith in
    eqb-true entry (log_of n) (split n entry entries tested).0 ∙ ap log_of same
further (suc k) n (entry ∷ entries) tested inside =
    let same : suc n + k ≡ n + suc k = omega arith in
    further k (suc n) entries (split n entry entries tested).1 (omega arith) ∙ ap log_of same

pub entry_is_logarithm : EntryIsLogarithm
unfolding is_log_table
entry_is_logarithm table tested n low high =
    let parts = (and-eq-true_iff (eqb (length table) 1024) (logs_from 1 table)).0 tested in
    let long = eqb-true (length table) 1024 parts.0 in
    let same : 1 + (n - 1) ≡ n = omega arith in
    further (n - 1) 1 table parts.1 (omega arith) ∙ ap log_of same

-- the entry of n as a double is L of n as a double
pub entry_as_float :
    (table : List ℕ) (n : ℕ)
    → is_log_table table ≡ true
    → 1 ≤ n
    → n ≤ 1024
    → of_int binary64 (pos (get_or table (n - 1) 0)) ≡ log_float n
unfolding log_float L float_of
entry_as_float table zero tested low high = absurd (not-suc-le-zero low)
entry_as_float table (suc k) tested low high =
    ap (λ (entry : ℕ). of_int binary64 (pos entry)) (entry_is_logarithm table tested (suc k) low high)
