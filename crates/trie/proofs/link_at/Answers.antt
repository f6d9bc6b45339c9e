-- `trie::link_at` meets its contract: the link of slot i stands at 2 × i + 1 (`Packed`). Assumes nothing.
use mathlib.Core.Path.{sym}
use Rattle.trie.proofs.Packed.{link_at}
use Rattle.trie.proofs.link_at.Goals as goal

pub returns : goal.returns
returns c = sym (link_at _ _)
