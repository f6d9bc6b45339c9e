-- The error of the tables has one value: what a `?` hands on is the error that the callee gave.
-- Assumes nothing.
use mathlib.Core.Path.{◌≡◌, refl}
use mathlib.Core.Bool.{false≢true}
use Rattle.std.specs.Prelude.{Result, Ok, Err, IsErr}
use Rattle.trie.specs.declared.Damaged.{Damaged}

pub handed_on : {A : Type 0} (x : Result A Damaged) → IsErr x → (d : Damaged) → x ≡ Err d
handed_on (Ok a) h d = absurd (false≢true h)
handed_on (Err e) h d = refl
