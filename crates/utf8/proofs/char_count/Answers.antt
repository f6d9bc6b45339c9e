-- `utf8::char_count` meets its contract. The loop's invariant: the characters counted so far and those from the position on make the count of the whole.
-- Each turn passes the character that was read.
-- Assumes nothing.
use mathlib.Core.Path.{sym, ap, ◌∙◌}
use native.Mathlib.Omega.{arith}
use Rattle.std.proofs.Common.{Ok}
use Rattle.std.proofs.lemmas.Result.{err_from_is_err_and}
use Rattle.utf8.proofs.Positions.{inside, not_within, count_start, count_char, count_malformed, count_end}
use Rattle.utf8.proofs.char_count.Goals as goal

pub loop-next-init : goal.loop-next-init
loop-next-init c = (omega arith, omega arith, count_start _)

pub returns-in_err-next : goal.returns-in_err-next
returns-in_err-next c =
    rw (err_from_is_err_and c.from_residual.result c.from_residual.ensures.1).1
    (count_malformed _ _ _ _ c.loop-next.invariant.2 (sym c.in_err-next.ensures))

pub overflow_add-at : goal.overflow_add-at
overflow_add-at c = omega (arith, inside _ _ _ _ _ (sym c.in_ok-next.ensures ∙ ap Ok c.in-Some.is))

pub loop-next-smaller : goal.loop-next-smaller
loop-next-smaller c = omega (arith, inside _ _ _ _ _ (sym c.in_ok-next.ensures ∙ ap Ok c.in-Some.is))

pub loop-next-preserved : goal.loop-next-preserved
loop-next-preserved c =
    let read = sym c.in_ok-next.ensures ∙ ap Ok c.in-Some.is in (
      omega (arith, inside _ _ _ _ _ read),
      omega (arith, inside _ _ _ _ _ read),
      count_char _ _ _ _ c.loop-next.invariant.2 _ _ _ read,
    )

pub returns : goal.returns
returns c = count_end _ _ _ _ c.loop-next.invariant.2 (not_within _ _ (sym c.in_ok-next.ensures ∙ ap Ok c.in_default.is))
