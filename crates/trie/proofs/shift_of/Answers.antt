-- `trie::shift_of` meets its contract: 64 - log2 is one more than the leading zeros. Assumes nothing.
use Rattle.trie.proofs.SlotCounts.{shift_is, zeros_fit}
use Rattle.trie.proofs.shift_of.Goals as goal

pub overflow_add-result : goal.overflow_add-result
overflow_add-result c = record { fits = zeros_fit _ c.requires }

pub returns : goal.returns
returns c = search shift_is
