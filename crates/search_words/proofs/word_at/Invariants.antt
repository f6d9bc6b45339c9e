use Rattle.search_words.proofs.Words.{Looking}
use Rattle.search_words.proofs.word_at.Given as goal

abbrev pub invariant-loop-place : goal.invariant-loop-place
invariant-loop-place l = Looking l.starts l.edge_ends l.at l.end l.place
