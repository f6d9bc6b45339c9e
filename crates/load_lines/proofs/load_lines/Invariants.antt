use Prim.Native.Nat.{◌+◌, ◌-◌}
use lib.ListN.{length}
use Rattle.trie.specs.Trie.{trie_of}
use Rattle.book.specs.Areas.{book_of}
use Rattle.load_lines.proofs.Loads.{SameLong, Loading}
use Rattle.load_lines.proofs.load_lines.Given as goal

abbrev pub invariant-loop-at : goal.invariant-loop-at
invariant-loop-at l = SameLong l.initial.roots l.initial.slots l.initial.records l.initial.logarithms l.roots l.slots l.records l.logarithms
    × Loading (book_of l.initial.head (trie_of l.initial.roots l.initial.slots) l.initial.records l.initial.logarithms) l.text (book_of l.head (trie_of l.roots l.slots) l.records l.logarithms) l.line l.at

abbrev pub decreases-loop-at : goal.decreases-loop-at
decreases-loop-at l = length l.text + 1 - l.at
