-- `trie::is_slot_count` meets its contract, by the laws of `Slots`. Assumes nothing.
use native.Mathlib.Omega.{arith}
use Rattle.trie.proofs.SlotCounts.{zeros_below, too_few, too_many, by_power}
use Rattle.trie.proofs.is_slot_count.Goals as goal

pub returns-then-n-lt-FEWEST_SLOTS : goal.returns-then-n-lt-FEWEST_SLOTS
returns-then-n-lt-FEWEST_SLOTS c = search too_few

pub returns-then-n-gt-MOST_SLOTS : goal.returns-then-n-gt-MOST_SLOTS
returns-then-n-gt-MOST_SLOTS c = search too_many

pub overflow_sub-result : goal.overflow_sub-result
overflow_sub-result c = zeros_below _ (omega arith) (omega arith)

pub returns : goal.returns
returns c = search by_power
