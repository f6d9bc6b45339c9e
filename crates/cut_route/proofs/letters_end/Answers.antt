-- `cut_route::letters_end` meets its contract. The loop's invariant: the steps passed are steps of one ASCII letter or digit. Assumes nothing.
use mathlib.Core.Path.{◌≡◌}
use native.Mathlib.Omega.{arith}
use Rattle.tokens.proofs.Ends.{run_begins, run_on, run_stops, run_ends}
use Rattle.cut_route.proofs.Letters.{longer_step, letter_step, other_step}
use Rattle.cut_route.proofs.letters_end.Goals as goal

pub loop-y-init : goal.loop-y-init
loop-y-init c = run_begins _ _ _ (omega arith)

pub loop-y-preserved : goal.loop-y-preserved
loop-y-preserved c =
    let args = c.args in
    run_on c.loop-y.invariant (omega arith)
    (letter_step args.chars.now args.ends.now c.loop-y.y c.if-ends-y.false _
    c.is_ascii_alphanumeric.ensures c.if-not-is_ascii_alphanumeric.false)

pub returns : goal.returns
returns c = let there : c.loop-y.y ≡ c.args.n = omega (arith, c.loop-y.invariant.inside) in rw there at (run_ends c.loop-y.invariant (omega arith))

pub returns-then-ends-y : goal.returns-then-ends-y
returns-then-ends-y c =
    let args = c.args in
    run_stops c.loop-y.invariant (longer_step args.chars.now args.ends.now c.loop-y.y c.if-ends-y.true)

pub returns-then-not-is_ascii_alphanumeric : goal.returns-then-not-is_ascii_alphanumeric
returns-then-not-is_ascii_alphanumeric c =
    let args = c.args in
    run_stops c.loop-y.invariant
    (other_step args.chars.now args.ends.now c.loop-y.y c.if-ends-y.false _
    c.is_ascii_alphanumeric.ensures c.if-not-is_ascii_alphanumeric.true)
