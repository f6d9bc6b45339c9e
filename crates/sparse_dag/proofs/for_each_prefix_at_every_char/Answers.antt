-- `sparse_dag::for_each_prefix_at_every_char` meets its contract. The loop's invariant is `Joining`, and the measure is the number of positions left. A turn
-- and each return is a law of `Blocks`, over what `prefixes_at` ensures.
-- Assumes nothing.
use Prim.Native.Nat.{ℕ}
use mathlib.Core.List.{List}
use mathlib.Core.Path.{◌≡◌, ◌∙◌}
use native.Mathlib.Omega.{arith}
use lib.ListN.{length, length-set}
use lib.Seq.{get_or-set_same}
use Rattle.std.proofs.lemmas.Result.{err_from_is_err_and}
use Rattle.sparse_dag.proofs.Blocks.{begins, ends_here, ends_stopped, goes_on}
use Rattle.sparse_dag.proofs.for_each_prefix_at_every_char.Goals as goal
use Rattle.sparse_dag.proofs.for_each_prefix_at_every_char.Goals.{After-prefixes_at, At-loop-at}

-- ---- the places of the code: the slices are lent, and a turn passes the loop's test and walks from its position

-- the edge slices after the walk from a position
abbrev ends : goal.After-prefixes_at → List ℕ
ends c = c.prefixes_at.new.edge_ends

abbrev records : goal.After-prefixes_at → List ℕ
records c = c.prefixes_at.new.edge_records

pub loop-at-init : goal.loop-at-init
loop-at-init c = begins _ _ _ _ _ _ _ _ _ (get_or-set_same c.args.starts.now 0 _ 0 (omega (arith, c.requires.n_in_bounds)))

starts_long : (c : goal.At-loop-at) → length c.loop-at.starts ≡ length c.args.starts.now
starts_long c = c.loop-at.invariant.starts_long ∙ simp length-set

pub returns-in_err-count : goal.returns-in_err-count
returns-in_err-count c =
    let at = (goal.at.returns-in_err-count c).After-prefixes_at in
    let p = err_from_is_err_and c.from_residual.result c.from_residual.ensures.1 in
    λ b trie in_use known. rw (p.1, p.2)
    (ends_stopped c.loop-at.invariant c.requires.n_in_bounds.0 c.prefixes_at.result (ends at) (records at) c.loop-at-test.true
    c.prefixes_at.ensures.walked_at _ c.in_err-count.was b trie in_use)

pub loop-at-preserved : goal.loop-at-preserved
loop-at-preserved c =
    let block = c.requires.n_in_bounds in
    goes_on c.loop-at.invariant block.0 c.prefixes_at.result (ends (goal.at.loop-at-preserved c).After-prefixes_at) (records (goal.at.loop-at-preserved c).After-prefixes_at) c.loop-at-test.true
    c.prefixes_at.ensures.walked_at c.in_ok-count.was
    (omega (arith, starts_long (goal.at.loop-at-preserved c).At-loop-at, block))
    c.prefixes_at.ensures.kept.0 c.prefixes_at.ensures.kept.1
    c.prefixes_at.auto.edge_ends c.prefixes_at.auto.edge_records

pub returns : goal.returns
returns c =
    let pre = c.requires in
    ends_here c.loop-at.invariant pre.n_in_bounds.0 c.loop-at-test.false pre.room_in_bounds.0 pre.room_in_bounds.1
