-- `trie::with_child_bit` meets its contract: a bit below 32 is one of the child. Assumes nothing.
use Rattle.trie.proofs.Packed.{child_bit_set, child_bit_word}
use Rattle.trie.proofs.with_child_bit.Goals as goal

pub returns : goal.returns
returns c = search (child_bit_set, child_bit_word)
