-- `trie::word_number` meets its contract, by the laws of `Packed`. Assumes nothing.
use Rattle.trie.proofs.Packed.{no_word_lem, is_record, is_bad}
use Rattle.trie.proofs.word_number.Goals as goal

pub returns-then-number-eq-NO_WORD : goal.returns-then-number-eq-NO_WORD
returns-then-number-eq-NO_WORD c = search no_word_lem

pub returns-then-used-n : goal.returns-then-used-n
returns-then-used-n c = search is_bad

pub returns : goal.returns
returns c = search is_record
