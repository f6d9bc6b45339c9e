-- `words_at::words_at` meets its contract. The loop's invariant is `Walking`. Each way on and each return is a law of `Walks`.
-- Assumes nothing.
use mathlib.Core.Path.{◌≡◌, ap, ◌∙◌}
use native.Mathlib.Omega.{arith}
use Rattle.std.specs.Prelude.{Ok, Err, Some}
use Rattle.cuts.proofs.Walks.{next_inside}
use Rattle.words_at.proofs.Walks.{begins, ends_here, ends_nothing, ends_damaged, ends_bad, ends_full, goes_past, goes_behind}
use Rattle.words_at.proofs.words_at.Goals as goal
use Rattle.words_at.proofs.words_at.Goals.{In-Ok-Some}

-- the step leads to a place
leads : (c : In-Ok-Some) → c.tested_step.result ≡ Ok (Some c.in-Ok-Some.child)
leads c = c.in-Ok-Some.is ∙ ap Ok c.in-Ok-Some.field-0-is

pub loop-next-init : goal.loop-next-init
loop-next-init c =
    begins _ _ _ _ _ _ _ _ _ _ c.requires.at_lt_n.0

pub tested_step-requires : goal.tested_step-requires
tested_step-requires c = (c.loop-next.invariant.walk.inside, c.requires.at_lt_n.3 _ c.loop-next-test.true)

pub returns-in-Ok-None : goal.returns-in-Ok-None
returns-in-Ok-None c =
    ends_nothing c.loop-next.invariant c.requires.at_lt_n.1 c.loop-next-test.true c.tested_step.ensures
    (c.in-Ok-None.is ∙ ap Ok c.in-Ok-None.field-0-is)

pub returns-in-Err : goal.returns-in-Err
returns-in-Err c =
    ends_damaged c.loop-next.invariant c.requires.at_lt_n.1 c.loop-next-test.true c.tested_step.ensures
    c.in-Err.is

pub word_at-requires : goal.word_at-requires
word_at-requires c =
    next_inside c.loop-next.invariant.walk c.requires.at_lt_n.1 c.loop-next-test.true c.tested_step.ensures
    (leads (goal.at.word_at-requires c).In-Ok-Some) c.args.tables.slots.table

pub loop-next-preserved-in-Ok-None-word_at : goal.loop-next-preserved-in-Ok-None-word_at
loop-next-preserved-in-Ok-None-word_at c =
    goes_past c.loop-next.invariant c.requires.at_lt_n.1 c.loop-next-test.true c.tested_step.ensures (leads (goal.at.loop-next-preserved-in-Ok-None-word_at c).In-Ok-Some)
    c.word_at.ensures c.args.tables.slots.table (c.in-Ok-None-word_at.is ∙ ap Ok c.in-Ok-None-word_at.field-0-is)

pub emit_span-requires : goal.emit_span-requires
emit_span-requires c =
    (omega (arith, c.loop-next.invariant.walk.first), omega (arith, c.requires.at_lt_n), omega (arith, c.requires.at_lt_n))

pub returns-in-Err-emit_span : goal.returns-in-Err-emit_span
returns-in-Err-emit_span c =
    ends_full c.loop-next.invariant c.requires.at_lt_n.1 c.loop-next-test.true c.tested_step.ensures (leads (goal.at.returns-in-Err-emit_span c).In-Ok-Some)
    c.word_at.ensures (c.in-Ok-Some-word_at.is ∙ ap Ok c.in-Ok-Some-word_at.field-0-is) c.emit_span.result _ c.emit_span.ensures
    c.in-Err-emit_span.is

pub loop-next-preserved : goal.loop-next-preserved
loop-next-preserved c =
    goes_behind c.loop-next.invariant c.requires.at_lt_n.1 c.loop-next-test.true c.tested_step.ensures (leads (goal.at.loop-next-preserved c).In-Ok-Some)
    c.word_at.ensures (c.in-Ok-Some-word_at.is ∙ ap Ok c.in-Ok-Some-word_at.field-0-is) c.emit_span.result _ c.emit_span.ensures
    c.args.tables.slots.table c.in-Ok.is c.emit_span.auto.tokens

pub returns-in-Err-word_at : goal.returns-in-Err-word_at
returns-in-Err-word_at c =
    ends_bad c.loop-next.invariant c.requires.at_lt_n.1 c.loop-next-test.true c.tested_step.ensures (leads (goal.at.returns-in-Err-word_at c).In-Ok-Some)
    c.word_at.ensures c.in-Err-word_at.is

pub returns : goal.returns
returns c =
    ends_here c.loop-next.invariant c.requires.at_lt_n.1 c.loop-next-test.false
