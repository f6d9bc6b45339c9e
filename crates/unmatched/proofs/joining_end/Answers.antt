-- `unmatched::joining_end` meets its contract. The loop's invariant: the characters passed join. Assumes nothing.
use mathlib.Core.Path.{◌≡◌}
use native.Mathlib.Omega.{arith}
use Rattle.tokens.proofs.Ends.{run_begins, run_on, run_stops, run_ends}
use Rattle.unmatched.proofs.Joining.{stands_singly, joins_on}
use Rattle.unmatched.proofs.joining_end.Goals as goal

pub loop-y-init : goal.loop-y-init
loop-y-init c = run_begins _ _ _ (omega arith)

pub loop-y-preserved : goal.loop-y-preserved
loop-y-preserved c =
    run_on c.loop-y.invariant (omega arith) (joins_on _ _ c.is_skip_cut_all.ensures c.if-is_skip_cut_all.false)

pub returns : goal.returns
returns c = let there : c.loop-y.y ≡ c.args.n = omega (arith, c.loop-y.invariant.inside) in rw there at (run_ends c.loop-y.invariant (omega arith))

pub returns-then-is_skip_cut_all : goal.returns-then-is_skip_cut_all
returns-then-is_skip_cut_all c =
    run_stops c.loop-y.invariant (stands_singly _ _ c.is_skip_cut_all.ensures c.if-is_skip_cut_all.true)
