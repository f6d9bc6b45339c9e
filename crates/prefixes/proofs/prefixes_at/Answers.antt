-- `prefixes::prefixes_at` meets its contract. The loop's invariant is `Walking`. Each way on and each return is a law of `Walks`.
-- Assumes nothing.
use mathlib.Core.Path.{◌≡◌, ap, ◌∙◌}
use native.Mathlib.Omega.{arith}
use Rattle.std.specs.Prelude.{Ok, Some}
use Rattle.std.proofs.lemmas.Result.{err_from_is_err_and}
use Rattle.cuts.proofs.Walks.{next_inside}
use Rattle.prefixes.proofs.Walks.{begins, ends_here, ends_nothing, ends_damaged, ends_bad, ends_full, goes_on, goes_on_behind, in_use_record}
use Rattle.prefixes.proofs.prefixes_at.Goals as goal
use Rattle.prefixes.proofs.prefixes_at.Goals.{In-Some}

-- the step leads to a place
leads : (c : In-Some) → c.tested_step.result ≡ Ok (Some c.in-Some.child)
leads c = c.in_ok-child.was ∙ ap Ok c.in-Some.is

pub loop-next-init : goal.loop-next-init
loop-next-init c = begins _ _ _ _ _ _ _ _ _ _ c.requires.at_lt_n.0 c.requires.taken_le_room.0

pub returns-in_err-child-clause-walked_at : goal.returns-in_err-child-clause-walked_at
returns-in_err-child-clause-walked_at c =
    let p = err_from_is_err_and c.from_residual.result c.from_residual.ensures.1 in
    rw (p.1, p.2) (ends_damaged c.loop-next.invariant c.requires.at_lt_n.1 c.loop-next-test.true c.tested_step.ensures c.in_err-child.was).0

pub returns-in_default-clause-walked_at : goal.returns-in_default-clause-walked_at
returns-in_default-clause-walked_at c =
    (ends_nothing c.loop-next.invariant c.requires.at_lt_n.1 c.loop-next-test.true c.tested_step.ensures (c.in_ok-child.was ∙ ap Ok c.in_default.is)).0

pub word_at-requires : goal.word_at-requires
word_at-requires c =
    next_inside c.loop-next.invariant.walk c.requires.at_lt_n.1 c.loop-next-test.true c.tested_step.ensures
    (leads (goal.at.word_at-requires c).In-Some) c.args.tables.slots.table

pub returns-in_default-word_at-clause-walked_at : goal.returns-in_default-word_at-clause-walked_at
returns-in_default-word_at-clause-walked_at c =
    (ends_bad c.loop-next.invariant c.requires.at_lt_n.1 c.loop-next-test.true c.tested_step.ensures
    (leads (goal.at.returns-in_default-word_at-clause-walked_at c).In-Some) c.word_at.ensures c.in_default-word_at.is).0

pub returns-then-count-room-clause-walked_at : goal.returns-then-count-room-clause-walked_at
returns-then-count-room-clause-walked_at c =
    (ends_full c.loop-next.invariant c.requires.at_lt_n.1 c.loop-next-test.true c.tested_step.ensures
    (leads (goal.at.returns-then-count-room-clause-walked_at c).In-Some) c.word_at.ensures
    (c.in-Ok.is ∙ ap Ok c.in-Some-number.is) (omega (arith, c.if-count-room.true))).0

pub overflow_cast-edge_records : goal.overflow_cast-edge_records
overflow_cast-edge_records c =
    let below =
    in_use_record c.loop-next.invariant c.requires.at_lt_n.1 c.loop-next-test.true c.tested_step.ensures
    (leads (goal.at.overflow_cast-edge_records c).In-Some) c.word_at.ensures (c.in-Ok.is ∙ ap Ok c.in-Some-number.is) in
    omega (arith, below, c.requires.taken_le_room.3)

pub loop-next-preserved-in_default-number : goal.loop-next-preserved-in_default-number
loop-next-preserved-in_default-number c =
    goes_on c.loop-next.invariant c.requires.at_lt_n.1 c.loop-next-test.true c.tested_step.ensures
    (leads (goal.at.loop-next-preserved-in_default-number c).In-Some) c.word_at.ensures
    c.args.tables.slots.table (c.in-Ok.is ∙ ap Ok c.in_default-number.is)

pub loop-next-preserved : goal.loop-next-preserved
loop-next-preserved c =
    goes_on_behind c.loop-next.invariant c.requires.at_lt_n.1 c.loop-next-test.true c.tested_step.ensures
    (leads (goal.at.loop-next-preserved c).In-Some) c.word_at.ensures (c.in-Ok.is ∙ ap Ok c.in-Some-number.is)
    c.args.tables.slots.table (omega (arith, c.if-count-room.false, c.loop-next.invariant.within))
    c.requires.taken_le_room.1 c.requires.taken_le_room.2

pub returns-clause-walked_at : goal.returns-clause-walked_at
returns-clause-walked_at c = (ends_here c.loop-next.invariant c.requires.at_lt_n.1 c.loop-next-test.false).0
