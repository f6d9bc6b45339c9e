-- `trie::with_word` meets its contract. Assumes nothing.
use Rattle.trie.proofs.Packed.{child_kept, word_stored}
use Rattle.trie.proofs.with_word.Goals as goal

pub returns : goal.returns
returns c = search (child_kept, word_stored)
