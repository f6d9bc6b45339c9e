-- `trie::key_at` meets its contract: the key of slot i stands at 2 × i (`Packed`). Assumes nothing.
use mathlib.Core.Path.{sym}
use Rattle.trie.proofs.Packed.{key_at}
use Rattle.trie.proofs.key_at.Goals as goal

pub returns : goal.returns
returns c = sym (key_at _ _)
