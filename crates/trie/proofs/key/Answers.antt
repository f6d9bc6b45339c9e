-- `trie::key` meets its contract: parent and character are small enough that nothing wraps. Assumes nothing.
use borrow.Author.Rules.{rules}
use Rattle.trie.specs.Trie.{key_of}
use Rattle.trie.proofs.key.Goals as goal

pub returns : goal.returns
unfolding key_of
returns c = search rules
