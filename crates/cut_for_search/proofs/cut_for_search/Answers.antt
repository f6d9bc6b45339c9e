-- `cut_for_search::cut_for_search` meets its contract: the areas are measured, and cut with by `Search`. Assumes nothing.
use Rattle.cut_sentence.proofs.Wholes.{measured_cut, measured_begins}
use Rattle.cut_for_search.proofs.Modes.{by_search}
use Rattle.cut_for_search.proofs.cut_for_search.Goals as goal

pub returns : goal.returns
returns c = record { tokens_value = by_search _ _ _ _ _ _ (measured_cut _ _ _ _ c.shortest-shortest.ensures _ _ _ _ c.shorter-room.ensures _ c.cut_sentence.ensures.tokens_value); unchanged = λ none. c.cut_sentence.ensures.unchanged (measured_begins _ _ _ _ c.shortest-shortest.ensures _ none) }
