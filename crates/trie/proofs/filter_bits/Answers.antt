-- `trie::filter_bits` meets its contract: the hash is the product of `wrapping_mul_u32`. Assumes nothing.
use Rattle.trie.proofs.Steps.{key_bit_is, child_bit_is}
use Rattle.trie.proofs.filter_bits.Goals as goal

pub returns : goal.returns
returns c = search (key_bit_is, child_bit_is)
