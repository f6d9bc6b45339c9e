-- `lines::parse_digits`: the number so far is not too large, and with the digits to come it makes the answer.
use mathlib.Core.Path.{◌≡◌}
use Prim.Native.Nat.{◌≤◌}
use Rattle.lines.specs.Lines.{greatest, number}
use Rattle.lines.proofs.Numbers.{number_from}
use Rattle.lines.proofs.parse_digits.Given as goal

abbrev pub invariant-loop-b : goal.invariant-loop-b
invariant-loop-b l = (l.n ≤ greatest) × (number_from l.digits l.b-index l.n ≡ number l.digits)
