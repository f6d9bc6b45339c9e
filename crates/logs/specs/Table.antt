-- The table of logarithms, document 02, note 5: "For 1 to 1,024 the logarithm is read from a table of 1,024 numbers; every entry is shown to be L
-- of its place by one test over the table." The entry of n is the one with n - 1 before it.
-- The test first, then what is claimed of every table that passes it. Proof: `proofs/Places.antt`.
-- Assumes nothing.
use Rattle.std.specs.Prelude.{ℕ, suc, ◌-◌, ◌≤◌, Bool, true, ◌&&◌, List, [], ◌∷◌, ◌≡◌, eqb, length, get_or}
use Rattle.score.specs.Logarithm.{log_of}

-- whether these entries are L of n, of the number after n, and so on
unfoldable pub logs_from : ℕ → List ℕ → Bool
logs_from n [] = true
logs_from n (entry ∷ entries) = eqb entry (log_of n) && logs_from (suc n) entries

-- "one test over the table": it has 1,024 numbers, and they are L of 1, of 2, and so on
unfoldable pub is_log_table : List ℕ → Bool
is_log_table table = eqb (length table) 1024 && logs_from 1 table

-- ---- what is claimed

-- "every entry is shown to be L of its place"
abbrev pub EntryIsLogarithm : Type 0
EntryIsLogarithm = (table : List ℕ) → is_log_table table ≡ true → (n : ℕ) → 1 ≤ n → n ≤ 1024 → get_or table (n - 1) 0 ≡ log_of n
