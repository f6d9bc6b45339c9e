-- `trie::child_of` meets its contract. Assumes nothing.
use Rattle.trie.proofs.Packed.{child_is}
use Rattle.trie.proofs.child_of.Goals as goal

pub returns : goal.returns
returns c = search child_is
