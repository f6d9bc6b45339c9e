-- `sentence::shortest` meets its contract: it is found slice by slice. Assumes nothing.
use Rattle.sentence.proofs.Beginning.{shortest_found}
use Rattle.sentence.proofs.shortest.Goals as goal

pub returns : goal.returns
returns c = search shortest_found
