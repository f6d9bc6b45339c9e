-- The tests that come before a word is looked up or added: document 01, "What each call returns", where both orders begin with "1, 2, 3, empty word".
-- Assumes nothing.
use Rattle.std.specs.Prelude.{ℕ, Bool, cond, List, leb, length, Result, Ok, Err}
use Rattle.std.proofs.Math.Option.{Option, none, some}
use Rattle.utf8.specs.Text.{chars_of}
use Rattle.book.specs.declared.Refusal.{Refusal}
use Rattle.book.specs.declared.Refusal.TheVariants.{BadAreas, TooLong, Malformed}
use Rattle.book.specs.Returns.{longest_text}

-- "malformed UTF-8"; else how many characters the word has, the empty one none
abbrev pub tested_chars : Option (List ℕ) → Result ℕ Refusal
tested_chars none = Err Malformed
tested_chars (some cs) = Ok (length cs)

-- whether the book's areas have the allowed sizes, "text over 16,777,215 bytes", and the test above
unfoldable pub tested_word : Bool → List ℕ → Result ℕ Refusal
tested_word sizes word = cond sizes (cond (leb (length word) longest_text) (tested_chars (chars_of word)) (Err TooLong)) (Err BadAreas)
