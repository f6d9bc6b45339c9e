-- `char_trie::index` meets its contract: the product is that of `wrapping_mul_u64`. Assumes nothing.
use Rattle.char_trie.proofs.index.Goals as goal

pub returns : goal.returns
returns c = rw c.wrapping_mul_u64.ensures
