-- The turns of a splitter: each takes the first block of what is left, and leaves the others (`Recorded`), so by induction over the turns their blocks are
-- all blocks of the text from its position on. A new splitter is at the text's start.
-- Assumes nothing.
use mathlib.Core.List.{List, [], ◌∷◌}
use mathlib.Core.Path.{◌≡◌, refl, sym, ap, ◌∙◌}
use borrow.Author.Tests.{ltb-false}
use lib.ListN.{take}
use Rattle.cuts.specs.Blocks.{Block, blocks_of}
use Rattle.cuts.specs.Slices.{block_of}
use Rattle.runs.specs.declared.CharacterClass.{CharacterClass}
use Rattle.splitter.specs.declared.SplitByCharacterClass.{SplitByCharacterClass}
use Rattle.runs.specs.Runs.{class_of, text_from}
use Rattle.splitter.specs.Turns.{InTurn, ended, turned, begun, BlocksInTurn}
use Rattle.runs.proofs.Recordings.{text_end}
use Rattle.splitter.proofs.Sentences.{text_start}

blocks_left : (class : CharacterClass) (d : SplitByCharacterClass) (bs : List Block) → InTurn class d bs
    → bs ≡ blocks_of (class_of class) (text_from d.text.now d.pos)
unfolding blocks_of
blocks_left class d [] (ended no_run) = rw (text_end d.text.now d.pos (ltb-false _ _ no_run)) refl
blocks_left class d (b ∷ bs) (turned run from chars offsets a_run recorded next) =
    ap (λ (rest : List Block). block_of run.matched (take run.chars chars) ∷ rest) (blocks_left class _ bs next) ∙ sym recorded.block

pub blocks_in_turn : BlocksInTurn
blocks_in_turn class text cs bs well_formed turns = blocks_left class (begun text) bs turns
    ∙ ap (blocks_of (class_of class)) (text_start text.now cs well_formed)
