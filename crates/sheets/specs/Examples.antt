-- A sheet with each kind of line, and what it goes out as. Proofs: `proofs/Examples.antt`. Assumes nothing.
use Rattle.std.specs.Prelude.{ℕ, List, [], ◌∷◌, ◌++◌, ◌≡◌}
use Rattle.lines.specs.Lines.{entry, meaning_of}
use Rattle.sheets.specs.Filled.{filled}
use Rattle.sheets.specs.OldRule.{old_meaning_of}

-- the words 甲 and 乙, and U+3000, which is white space
abbrev pub 甲 : List ℕ
甲 = 0xE7 ∷ 0x94 ∷ 0xB2 ∷ []

abbrev pub 乙 : List ℕ
乙 = 0xE4 ∷ 0xB9 ∷ 0x99 ∷ []

abbrev pub wide_space : List ℕ
wide_space = 0xE3 ∷ 0x80 ∷ 0x80 ∷ []

abbrev pub LF : List ℕ
LF = 0x0A ∷ []

abbrev pub CRLF : List ℕ
CRLF = 0x0D ∷ 0x0A ∷ []

-- a space and 0, as they are put after a word
abbrev pub zero : List ℕ
zero = 0x20 ∷ 0x30 ∷ []

-- a word alone; one with white space after it, and CR; one with white space before it
abbrev pub bare_words : List ℕ → List ℕ
bare_words added = 甲 ++ (added ++ (LF ++ (甲 ++ (added ++ (wide_space ++ (CRLF ++ (0x09 ∷ (乙 ++ (added ++ LF)))))))))

-- a word with a frequency; with a tag too; with what is no frequency; a blank line; one of white space; one that is not UTF-8
abbrev pub other_lines : List ℕ
other_lines =
    甲 ++ (0x20 ∷ 0x35 ∷ (LF ++ (甲 ++ (0x20 ∷ 0x35 ∷ 0x20 ∷ 0x6E ∷ (CRLF ++ (甲 ++ (0x20 ∷ 0x78 ∷ (LF ++ (LF ++ (wide_space ++ (CRLF ++ (0xFF ∷ LF))))))))))))

-- and a last word without an LF
abbrev pub SheetExample : Type 0
SheetExample = filled (bare_words [] ++ (other_lines ++ 乙)) ≡ bare_words zero ++ (other_lines ++ (乙 ++ zero))

-- an empty sheet goes out empty
abbrev pub EmptyExample : Type 0
EmptyExample = filled [] ≡ []

-- the two rules are two: 甲, which is U+7532, alone on its line has the frequency 1 now, and had 0
abbrev pub RulesDiffer : Type 0
RulesDiffer = (meaning_of 甲 ≡ entry (0x7532 ∷ []) 1) × (old_meaning_of 甲 ≡ entry (0x7532 ∷ []) 0)
