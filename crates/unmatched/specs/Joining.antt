-- The characters that join outside the class of `cut_all`, as the code finds them.
-- Assumes nothing.
use Rattle.std.specs.Prelude.{ℕ, List, get_or}
use Rattle.classes.specs.Tokens.{joins}
use Rattle.tokens.specs.Runs.{MaximalRun}

-- "ASCII letters, digits, + # LF"
abbrev pub joining_run : List ℕ → ℕ → ℕ → ℕ → Type 0
joining_run chars n from to = MaximalRun (λ i. joins (get_or chars i 0)) n from to
