use Rattle.search_words.proofs.Turns.{WordsPut}
use Rattle.search_words.proofs.emit_words.Given as goal

abbrev pub invariant-loop-end : goal.invariant-loop-end
invariant-loop-end l = WordsPut l.size l.offsets l.starts l.edge_ends l.base l.x l.y l.initial.tokens l.count-2 l.tokens l.count l.end
