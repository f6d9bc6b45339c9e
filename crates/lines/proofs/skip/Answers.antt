-- `lines::skip` meets its contract. The loop's invariant: the text from the position on is well formed, and the position after what is skipped is still
-- the one to be answered. Assumes nothing.
use mathlib.Core.Path.{◌∙◌}
use native.Mathlib.Omega.{arith}
use Rattle.utf8.proofs.Positions.{inside, still_chars}
use Rattle.lines.proofs.Fields.{pass, stop, stop_end, alike, unlike}
use Rattle.lines.proofs.skip.Goals as goal

pub returns-then-is_white_space-space : goal.returns-then-is_white_space-space
returns-then-is_white_space-space c =
    stop _ _ _ c.loop-end.invariant.1 _ _ _ c.next_char-next.ensures (unlike _ _ _ c.is_white_space.ensures c.if-is_white_space-space.true) ∙ c.loop-end.invariant.0

pub overflow_add-end : goal.overflow_add-end
overflow_add-end c = omega (arith, inside _ _ _ _ _ c.next_char-next.ensures)

pub loop-end-smaller : goal.loop-end-smaller
loop-end-smaller c = omega (arith, inside _ _ _ _ _ c.next_char-next.ensures)

pub loop-end-preserved : goal.loop-end-preserved
loop-end-preserved c = (
  pass _ _ _ c.loop-end.invariant.1 _ _ _ c.next_char-next.ensures (alike _ _ _ c.is_white_space.ensures c.if-is_white_space-space.false)
      ∙ c.loop-end.invariant.0,
  still_chars _ _ c.loop-end.invariant.1 _ _ _ c.next_char-next.ensures,
)

pub returns : goal.returns
returns c = stop_end _ _ _ (omega arith) ∙ c.loop-end.invariant.0
