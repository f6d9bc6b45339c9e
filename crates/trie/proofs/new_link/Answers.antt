-- `trie::new_link` meets its contract: a node fits the low half, and the high one is 0. Assumes nothing.
use native.Mathlib.Omega.{arith}
use Rattle.trie.proofs.Packed.{new_child, new_word}
use Rattle.trie.proofs.new_link.Goals as goal

pub returns : goal.returns
returns c = (new_child _ _ (omega arith) (omega arith), new_word _ c.args.node (omega arith) (omega arith))
