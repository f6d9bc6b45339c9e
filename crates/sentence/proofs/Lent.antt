-- The tests by sizes (`tested_sizes`) are those of the book that is lent: its lists are as long as the slices say.
-- Assumes nothing.
use mathlib.Core.Path.{◌≡◌}
use mathlib.Core.List.{List}
use Prim.Native.Nat.{ℕ}
use lib.Ieee.{Float}
use lib.ListN.{length}
use Rattle.trie.specs.Trie.{trie_of}
use Rattle.trie.proofs.Packed.{length_keys}
use Rattle.book.specs.declared.Head.{Head}
use Rattle.book.specs.Areas.{book_of}
use Rattle.book.proofs.Areas.{sized_lent}
use Rattle.cuts.specs.Cuts.{tested_book}
use Rattle.sentence.specs.Sizes.{tested_sizes}

pub tested_lent : (head : Head) (roots slots records : List ℕ) (logarithms : List Float)
    → tested_sizes head (length roots) (length slots) (length records) (length logarithms) ≡ tested_book (book_of head (trie_of roots slots) records logarithms)
tested_lent head roots slots records logarithms = rw (sized_lent head roots slots records logarithms, length_keys slots)
