-- `unmatched::cut_all_unmatched` meets its contract. The loop's invariant is `Putting`, and each turn takes a maximal run of characters that join, or one
-- character. Assumes nothing.
use Rattle.std.specs.Prelude.{Err}
use Rattle.std.proofs.Common.{rules}
use mathlib.Core.Path.{◌≡◌}
use native.Mathlib.Omega.{arith}
use lib.ListN.{take}
use lib.Seq.{length-take-le}
use Rattle.unmatched.proofs.Joining.{stands_singly, joins_on}
use Rattle.tokens.proofs.Turns.{Turn, begins, refused, one_more, ends, emitted_in}
use Rattle.unmatched.proofs.Unmatched.{runs_from, all_runs, runs_end, joining_characters, other_character}
use Rattle.unmatched.proofs.cut_all_unmatched.Goals as goal
use Rattle.unmatched.proofs.cut_all_unmatched.Goals.{After-from_residual, Joined-not-is_skip_cut_all, then-not-is_skip_cut_all, else-not-is_skip_cut_all}

-- where the span ends, by the first character's class
turn : (c : goal.Joined-not-is_skip_cut_all)
    → Turn c.args.n (runs_from (take c.args.n c.args.chars.now)) c.loop-x.x c.if-not-is_skip_cut_all.y
turn c =
    let args = c.args in
    let long = c.requires.0 in
    let within = c.loop-x-test.true in
    let class = c.is_skip_cut_all.ensures in
    elim c.if-not-is_skip_cut_all.branch [
      | then-not-is_skip_cut_all w ↦
          rw w.y-is
          (joining_characters args.chars.now args.n long c.loop-x.x within _ (joins_on _ _ class w.if-not-is_skip_cut_all.true)
          w.joining_end-y.ensures)
      | else-not-is_skip_cut_all w ↦
          rw w.y-is (other_character args.chars.now args.n long c.loop-x.x within (stands_singly _ _ class w.if-not-is_skip_cut_all.false))
    ]

pub loop-x-init : goal.loop-x-init
loop-x-init c = begins _ _ _ _ _ _ _

pub emit_span-requires : goal.emit_span-requires
emit_span-requires c =
    let t = turn (goal.at.emit_span-requires c).Joined-not-is_skip_cut_all in
    (omega (arith, t.forward), omega (arith, t.inside), omega (arith, t.inside))

refused_as : (c : goal.After-from_residual) → c.from_residual.result ≡ Err c.in_err-count.field-0.0
refused_as c = search rules

pub returns-in_err-count : goal.returns-in_err-count
returns-in_err-count c place known =
    let args = c.args in
    rw (refused_as c)
    (refused _ _ _ _ _ _ _ c.loop-x.invariant (turn (goal.at.returns-in_err-count c).Joined-not-is_skip_cut_all) c.emit_span.result _
    (emitted_in _ _ _ _ _ _ _ _ c.emit_span.result _ (length-take-le args.n args.chars.now c.requires.0) (turn (goal.at.returns-in_err-count c).Joined-not-is_skip_cut_all).inside
    c.emit_span.ensures)
    c.in_err-count.was
    _ (all_runs _) place known)

pub loop-x-smaller : goal.loop-x-smaller
loop-x-smaller c = omega (arith, turn (goal.at.loop-x-smaller c).Joined-not-is_skip_cut_all)

pub loop-x-preserved : goal.loop-x-preserved
loop-x-preserved c =
    let args = c.args in
    one_more _ _ _ _ _ _ _ c.loop-x.invariant (turn (goal.at.loop-x-preserved c).Joined-not-is_skip_cut_all) c.emit_span.result _
    (emitted_in _ _ _ _ _ _ _ _ c.emit_span.result _ (length-take-le args.n args.chars.now c.requires.0) (turn (goal.at.loop-x-preserved c).Joined-not-is_skip_cut_all).inside
    c.emit_span.ensures)
    c.in_ok-count.was
    c.emit_span.auto.tokens

pub returns : goal.returns
returns c place known =
    let args = c.args in
    ends _ _ _ _ _ _ _ c.loop-x.invariant (runs_end args.chars.now args.n c.requires.0 c.loop-x.x c.loop-x-test.false) _ (all_runs _) place known
