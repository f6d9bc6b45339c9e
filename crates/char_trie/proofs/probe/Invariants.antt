use mathlib.Core.Path.{◌≡◌}
use Prim.Native.Nat.{◌/◌, ◌<◌}
use lib.ListN.{length}
use Rattle.trie.specs.Trie.{keys_of, probe_from, probe_of}
use Rattle.char_trie.proofs.probe.Given as goal

abbrev pub invariant-loop-numbers : goal.invariant-loop-numbers
invariant-loop-numbers l = (l.i < length l.numbers / 2) × (0 < l.left) × (probe_from l.left (keys_of l.numbers) l.key l.i ≡ probe_of (keys_of l.numbers) l.key)

abbrev pub decreases-loop-numbers : goal.decreases-loop-numbers
decreases-loop-numbers l = l.left
