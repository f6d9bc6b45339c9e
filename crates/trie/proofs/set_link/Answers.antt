-- `trie::set_link` meets its contract: the link of slot i stands at 2 × i + 1 (`Packed`). Assumes nothing.
use Rattle.trie.proofs.Packed.{set_link, set_link_keys}
use Rattle.trie.proofs.set_link.Goals as goal

pub returns : goal.returns
returns c = search (set_link, set_link_keys)
