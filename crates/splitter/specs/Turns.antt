-- The splitter and its way through a text, run by run: document 01, "the splitter keeps the text it was given and how far it has got".
-- Assumes nothing.
use Rattle.std.specs.Prelude.{ℕ, Bool, true, false, List, [], ◌∷◌, ◌≡◌, ltb, length, take}
use Rattle.std.proofs.Math.Option.{some}
use Rattle.std.specs.Borrow.{Bor}
use Rattle.utf8.specs.Text.{chars_of}
use Rattle.cuts.specs.Blocks.{Block, blocks_of}
use Rattle.cuts.specs.Slices.{block_of}
use Rattle.runs.specs.declared.CharacterClass.{CharacterClass}
use Rattle.runs.specs.declared.Run.{Run}
use Rattle.splitter.specs.declared.SplitByCharacterClass.{SplitByCharacterClass}
use Rattle.runs.specs.Runs.{class_of, Recorded}

-- as it is made: at the text's start
abbrev pub begun : Bor (List ℕ) → SplitByCharacterClass
begun text = record { text = text; pos = 0 }

-- behind a run that ends there: it keeps the text
abbrev pub moved_to : SplitByCharacterClass → ℕ → SplitByCharacterClass
moved_to d end = record { text = d.text; pos = end }

-- whether there is a run that it has not passed: the text goes on
abbrev pub within : List ℕ → ℕ → Bool
within s at = ltb at (length s)

abbrev pub has_next : SplitByCharacterClass → Bool
has_next d = within d.text.now d.pos

-- ---- its way through a text

-- The turns of a splitter, until it has no run before it, with the block of each. A turn is known by what its calls answered, and of these their contracts
-- hold: `next_recording` at the splitter's text and position answered a run, and left its characters in `chars` and their places in `offsets`, counted from
-- the UTF-16 offset `from`; the next turn is that of the splitter which `moved` answered.
pub data InTurn (class : CharacterClass) : SplitByCharacterClass → List Block → Type 0 where
  ended : {d : SplitByCharacterClass} → has_next d ≡ false → InTurn class d []
  turned : {d : SplitByCharacterClass} {bs : List Block} (run : Run) (from : ℕ) (chars offsets : List ℕ)
      → has_next d ≡ true
      → Recorded (class_of class) d.text.now d.pos from run chars offsets
      → InTurn class (moved_to d run.end) bs
      → InTurn class d (block_of run.matched (take run.chars chars) ∷ bs)

-- "Maximal runs of one class": the blocks of a new splitter, turn after turn, are those of the whole text
abbrev pub BlocksInTurn : Type 0
BlocksInTurn =
    (class : CharacterClass) (text : Bor (List ℕ)) (cs : List ℕ) (bs : List Block)
    → chars_of text.now ≡ some cs
    → InTurn class (begun text) bs
    → bs ≡ blocks_of (class_of class) cs

-- and every text that is well formed has such turns
abbrev pub EveryTextInTurn : Type 0
EveryTextInTurn =
    (class : CharacterClass) (text : Bor (List ℕ)) (cs : List ℕ)
    → chars_of text.now ≡ some cs
    → InTurn class (begun text) (blocks_of (class_of class) cs)
