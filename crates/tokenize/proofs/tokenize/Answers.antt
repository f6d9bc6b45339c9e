-- `tokenize::tokenize` meets its contract: the areas are measured, and cut with. Assumes nothing.
use Rattle.cut_sentence.proofs.Wholes.{measured_cut, measured_begins}
use Rattle.tokenize.proofs.tokenize.Goals as goal

pub returns : goal.returns
returns c = record { tokens_value = measured_cut _ _ _ _ c.shortest-shortest.ensures _ _ _ _ c.shorter-room.ensures _ c.cut_sentence.ensures.tokens_value; unchanged = λ none. c.cut_sentence.ensures.unchanged (measured_begins _ _ _ _ c.shortest-shortest.ensures _ none) }
