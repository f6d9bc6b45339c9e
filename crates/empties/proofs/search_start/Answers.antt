-- `empties::search_start` meets its contract: a number below 2^32 times that of the slots is at most 2^32 times the latter. Assumes nothing.
use Prim.Native.Nat.{ℕ, ◌+◌, ◌*◌, ◌/◌, ◌%◌, ◌≤◌}
use native.Mathlib.Nat.{mul-le-mul_right}
use native.Mathlib.Omega.{arith}
use Rattle.empties.proofs.search_start.Goals as goal

scaled : (n slots : ℕ) → n % 4294967296 * slots ≤ 4294967296 * slots
scaled n slots = mul-le-mul_right slots (omega arith)

pub overflow_mul-result : goal.overflow_mul-result
overflow_mul-result c = omega (arith, scaled ((c.args.next / 1024 + 1) * 2654435769) c.args.slots)

pub returns : goal.returns
returns c = omega (arith, scaled ((c.args.next / 1024 + 1) * 2654435769) c.args.slots)
