-- The areas of a cut as slices: how long an area of several slices is, and that a slice is unchanged; and a block in the slices that the code lends from one
-- step of a cut to the next, its characters and the place of each of them.
-- Assumes nothing.
use Rattle.std.specs.Prelude.{ℕ, ◌+◌, ◌*◌, ◌^◌, ◌≤◌, ◌<◌, Bool, cond, List, [], ◌∷◌, ◌≡◌, ltb, length, get_or, take}
use Rattle.trie.specs.Trie.{CharTrie}
use Rattle.book.specs.Returns.{Book, longest_text}
use Rattle.utf8.specs.Encoding.{byte_length}
use Rattle.utf8.specs.Utf16.{unit_length}
use Rattle.cuts.specs.Blocks.{Block}
use Rattle.cuts.specs.Tokens.{Base}

-- "An area of several slices counts as its shortest"
abbrev pub shorter : ℕ → ℕ → ℕ
shorter a b = cond (ltb b a) b a

abbrev pub shortest : ℕ → List ℕ → ℕ
shortest a [] = a
shortest a (b ∷ bs) = shortest (shorter a b) bs

-- a lent slice is left as it was
abbrev pub Unchanged : {X : Type 0} → X → X → Type 0
Unchanged old new = new ≡ old

-- what a walk is lent of a book: the trie, and how many records are used
pub record SeenAs (b : Book) (trie : CharTrie) (used : ℕ) : Type 0 where
  pub same_trie : b.trie ≡ trie
  pub records : b.head.records ≡ used

abbrev pub block_of : Bool → List ℕ → Block
block_of matched chars = record { matched = matched; chars = chars }

-- the first n numbers of a slice are characters, of 21 bits each
abbrev pub Characters : ℕ → List ℕ → Type 0
Characters n chars = (i : ℕ) → i < n → get_or chars i 0 < 2 ^ 21

-- a place between two characters, in one number of 64 bits: its byte offset below, and above it its UTF-16 offset
abbrev pub packed : ℕ → ℕ → ℕ
packed bytes units = bytes + units * 2 ^ 32

-- a slice has the places of a block's characters, and of its end, where the block starts at the given byte and UTF-16 offsets
abbrev pub Offsets : ℕ → ℕ → List ℕ → List ℕ → Type 0
Offsets bytes units chars offsets =
    (i : ℕ) → i ≤ length chars → get_or offsets i 0 ≡ packed (bytes + byte_length (take i chars)) (units + unit_length (take i chars))

-- where a block stands in the sentence, as the code has it: the number of characters before it, and the places of its own; and a byte offset fits below
-- a UTF-16 offset
pub record Placed (at : Base) (base : ℕ) (chars offsets : List ℕ) : Type 0 where
  pub after : at.chars ≡ base
  pub from : Offsets at.bytes at.units chars offsets
  pub short : at.bytes + byte_length chars ≤ longest_text
