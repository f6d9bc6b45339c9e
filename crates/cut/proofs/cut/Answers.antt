-- `cut::cut` meets its contract: the areas are measured, and cut with by `Default`. Assumes nothing.
use Rattle.cut_sentence.proofs.Wholes.{measured_cut, measured_begins}
use Rattle.cut.proofs.Modes.{by_default}
use Rattle.cut.proofs.cut.Goals as goal

pub returns : goal.returns
returns c = record { tokens_value = by_default _ _ _ _ _ _ (measured_cut _ _ _ _ c.shortest-shortest.ensures _ _ _ _ c.shorter-room.ensures _ c.cut_sentence.ensures.tokens_value); unchanged = λ none. c.cut_sentence.ensures.unchanged (measured_begins _ _ _ _ c.shortest-shortest.ensures _ none) }
