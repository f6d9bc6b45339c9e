-- A block as the splitter's step records it: document 01, "The sentence's blocks: `SplitByCharacterClass`".
-- Assumes nothing.
use Rattle.std.specs.Prelude.{ℕ, ◌+◌, ◌≤◌, ◌<◌, Bool, List, [], ◌∷◌, ◌≡◌, length, take}
use Rattle.std.proofs.Math.Option.{none, some, IsSome}
use Rattle.classes.specs.Blocks.{cut_class, cut_all_class}
use Rattle.utf8.specs.Text.{chars_from}
use Rattle.utf8.specs.Encoding.{byte_length}
use Rattle.utf8.specs.Utf16.{unit_length}
use Rattle.cuts.specs.Blocks.{blocks_of}
use Rattle.cuts.specs.Slices.{Characters, Offsets}
use Rattle.runs.specs.declared.CharacterClass.{CharacterClass}
use Rattle.runs.specs.declared.CharacterClass.TheVariants.{Default, CutAll}
use Rattle.runs.specs.declared.Run.{Run}

-- "For `cut` the class is Han, ASCII letters and digits, and + # & . _ % -. For `cut_all` it is Han."
unfoldable pub class_of : CharacterClass → ℕ → Bool
class_of Default c = cut_class c
class_of CutAll c = cut_all_class c

-- the characters from a position on; of a text that is malformed there, none
unfoldable pub text_from : List ℕ → ℕ → List ℕ
text_from s at = elim (chars_from s at) [ none ↦ [] | some cs ↦ cs ]

-- the run that starts at a position is the first block of the text from there on; the other blocks are those of the text from its end on; and the
-- slices have its characters, and the places of these and of its end. `from` is the position in UTF-16 code units
pub record Recorded (class : ℕ → Bool) (s : List ℕ) (at from : ℕ) (r : Run) (chars offsets : List ℕ) : Type 0 where
  pub fits : r.chars < length chars
  pub forward : at < r.end
  pub inside : r.end ≤ length s
  pub well_formed : IsSome (chars_from s r.end)
  pub block : blocks_of class (text_from s at) ≡ record { matched = r.matched; chars = take r.chars chars } ∷ blocks_of class (text_from s r.end)
  pub counted : length (text_from s at) ≡ r.chars + length (text_from s r.end)
  pub bytes : r.end ≡ at + byte_length (take r.chars chars)
  pub units : r.units ≡ from + unit_length (take r.chars chars)
  pub characters : Characters r.chars chars
  pub offset : Offsets at from (take r.chars chars) offsets
