-- `char_trie::next_slot` meets its contract. Assumes nothing.
use Rattle.trie.proofs.SlotCounts.{next_wraps, next_goes_on}
use Rattle.char_trie.proofs.next_slot.Goals as goal

pub returns-then-next-n : goal.returns-then-next-n
returns-then-next-n c = search next_wraps

pub returns-else-next-n : goal.returns-else-next-n
returns-else-next-n c = search next_goes_on
