-- A book from what is lent: the head by value, and the contents of the slices, at the call and afterwards.
-- Assumes nothing.
use Rattle.std.specs.Prelude.{ℕ, ◌+◌, ◌/◌, Bool, List, Float}
use Rattle.trie.specs.Trie.{CharTrie, trie_of}
use Rattle.book.specs.declared.Head.{Head}
use Rattle.book.specs.Returns.{Book, allowed}

-- the sizes of a book by the lengths of its four slices: a root entry is one number, so that there are as many children as word numbers; a slot is two,
-- and of an odd number of them there is a key more than links, which is "equally long" no more
abbrev pub areas_allowed : ℕ → ℕ → ℕ → ℕ → Bool
areas_allowed roots slots records logarithms = allowed roots roots ((slots + 1) / 2) (slots / 2) (slots / 2) records logarithms

abbrev pub book_of : Head → CharTrie → List ℕ → List Float → Book
book_of head trie records logarithms = record { head = head; trie = trie; records = records; logarithms = logarithms }

-- the book in a head and four slices: as a call was lent it, or as the call left it, with the head that it answered
abbrev pub book_in : Head → List ℕ → List ℕ → List ℕ → List Float → Book
book_in head roots slots records logarithms = book_of head (trie_of roots slots) records logarithms
