-- `unmatched::cut_unmatched` meets its contract. The loop's invariant is `Putting`, and each turn takes one character, or CR LF. Assumes nothing.
use Rattle.std.specs.Prelude.{Err}
use Rattle.std.proofs.Common.{rules}
use mathlib.Core.Path.{◌≡◌}
use native.Mathlib.Omega.{arith}
use lib.ListN.{take}
use lib.Seq.{length-take-le}
use Rattle.tokens.proofs.Turns.{Turn, begins, refused, one_more, ends, emitted_in}
use Rattle.unmatched.proofs.Unmatched.{singly_from, all_singly, singly_end, cr_lf, no_lf, cr_at_end, no_cr}
use Rattle.unmatched.proofs.cut_unmatched.Goals as goal
use Rattle.unmatched.proofs.cut_unmatched.Goals.{After-from_residual, Joined-chars-x-eq13}

-- where the span ends, by the tests
turn : (c : goal.Joined-chars-x-eq13)
    → Turn c.args.n
    (singly_from (take c.args.n c.args.chars.now))
    c.loop-x.x c.if-chars-x-eq13.y
turn c =
    let args = c.args in
    let long = c.requires.0 in
    let within = c.loop-x-test.true in
    grind (
      arith,
      cr_lf args.chars.now args.n long c.loop-x.x within,
      no_lf args.chars.now args.n long c.loop-x.x within,
      cr_at_end args.chars.now args.n long c.loop-x.x within,
      no_cr args.chars.now args.n long c.loop-x.x within,
    )

pub loop-x-init : goal.loop-x-init
loop-x-init c = begins _ _ _ _ _ _ _

pub emit_span-requires : goal.emit_span-requires
emit_span-requires c =
    let t = turn (goal.at.emit_span-requires c).Joined-chars-x-eq13 in
    (omega (arith, t.forward), omega (arith, t.inside), omega (arith, t.inside))

refused_as : (c : goal.After-from_residual) → c.from_residual.result ≡ Err c.in_err-count.field-0.0
refused_as c = search rules

pub returns-in_err-count : goal.returns-in_err-count
returns-in_err-count c place known =
    let args = c.args in
    rw (refused_as c)
    (refused _ _ _ _ _ _ _ c.loop-x.invariant (turn (goal.at.returns-in_err-count c).Joined-chars-x-eq13) c.emit_span.result _
    (emitted_in _ _ _ _ _ _ _ _ c.emit_span.result _ (length-take-le args.n args.chars.now c.requires.0) (turn (goal.at.returns-in_err-count c).Joined-chars-x-eq13).inside
    c.emit_span.ensures)
    c.in_err-count.was
    _ (all_singly _) place known)

pub loop-x-smaller : goal.loop-x-smaller
loop-x-smaller c = omega (arith, turn (goal.at.loop-x-smaller c).Joined-chars-x-eq13)

pub loop-x-preserved : goal.loop-x-preserved
loop-x-preserved c =
    let args = c.args in
    one_more _ _ _ _ _ _ _ c.loop-x.invariant (turn (goal.at.loop-x-preserved c).Joined-chars-x-eq13) c.emit_span.result _
    (emitted_in _ _ _ _ _ _ _ _ c.emit_span.result _ (length-take-le args.n args.chars.now c.requires.0) (turn (goal.at.loop-x-preserved c).Joined-chars-x-eq13).inside
    c.emit_span.ensures)
    c.in_ok-count.was
    c.emit_span.auto.tokens

pub returns : goal.returns
returns c place known =
    let args = c.args in
    ends _ _ _ _ _ _ _ c.loop-x.invariant (singly_end args.chars.now args.n c.requires.0 c.loop-x.x c.loop-x-test.false) _
    (all_singly _) place known
