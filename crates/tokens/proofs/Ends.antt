-- Where a run ends: the loops of `joining_end`, `letters_end` and `next_part`. What is kept at each turn is `Running`: all positions passed are in the
-- run. A position
-- that is in the run is passed, and at the first that is not, or at the block's end, the run is maximal.
-- Assumes nothing.
use Prim.Native.Nat.{ℕ, ◌+◌, ◌≤◌, ◌<◌}
use mathlib.Core.Bool.{Bool, true, false}
use mathlib.Core.Path.{◌≡◌, subst}
use native.Mathlib.Nat.{le_refl}
use native.Mathlib.Omega.{arith}
use Rattle.score.proofs.Tests.{by_leb}
use Rattle.tokens.specs.Runs.{MaximalRun}

pub record Running (holds : ℕ → Bool) (n from y : ℕ) : Type 0 where
  pub forward : from ≤ y
  pub inside : y ≤ n
  pub all : (i : ℕ) → from ≤ i → i < y → holds i ≡ true

pub run_begins : (holds : ℕ → Bool) (n from : ℕ) → from ≤ n → Running holds n from from
run_begins holds n from h = record { forward = le_refl from; inside = h; all = λ i first last. absurd (omega arith) }

module _ {holds : ℕ → Bool} {n from y : ℕ} (here : Running holds n from y) where
  pub run_on : y < n → holds y ≡ true → Running holds n from (y + 1)
  run_on h e =
      record {
        forward = omega (arith, here.forward);
        inside = omega arith;
        all =
            λ i first last. by_leb y i (λ (t : Bool). holds i ≡ true)
            (λ g. let same : y ≡ i = omega arith in subst (λ (k : ℕ). holds k ≡ true) same e)
            (λ g. here.all i first g);
      }

  pub run_stops : holds y ≡ false → MaximalRun holds n from y
  run_stops e = record { forward = here.forward; inside = here.inside; all = here.all; no_more = λ h. e }

  pub run_ends : n ≤ y → MaximalRun holds n from y
  run_ends h = record { forward = here.forward; inside = here.inside; all = here.all; no_more = λ g. absurd (omega arith) }
