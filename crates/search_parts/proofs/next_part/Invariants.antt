use Rattle.search_parts.proofs.Parts.{Reading}
use Rattle.search_parts.proofs.next_part.Given as goal

abbrev pub invariant-loop-end : goal.invariant-loop-end
invariant-loop-end l = Reading l.chars l.from l.to l.end l.lettered
