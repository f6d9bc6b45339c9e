-- `trie::set_key` meets its contract: the key of slot i stands at 2 × i (`Packed`). Assumes nothing.
use Rattle.trie.proofs.Packed.{set_key, set_key_links}
use Rattle.trie.proofs.set_key.Goals as goal

pub returns : goal.returns
returns c = search (set_key, set_key_links)
