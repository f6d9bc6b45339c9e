-- The loop over a sentence's blocks, whatever is done with a block. What is kept at each turn is `Cutting`: the blocks of the text from `at` on, cut after
-- what is written so far, come to what all blocks of the sentence come to. A turn takes the run that starts there, which is the first of these blocks; if
-- nothing stopped it, the blocks of the text from its end go on behind it.
-- Assumes nothing.
use Rattle.std.specs.Prelude.{Result, Ok, Err}
use mathlib.Core.Path.{◌≡◌, refl, subst, ◌∙◌}
use mathlib.Core.Bool.{Bool}
use mathlib.Core.List.{List}
use mathlib.Core.Option.{IsSome}
use Prim.Native.Nat.{ℕ, ◌+◌, ◌≤◌}
use native.Mathlib.Omega.{arith}
use lib.ListN.{length, take}
use Rattle.utf8.specs.Text.{chars_of, chars_from}
use Rattle.utf8.proofs.Positions.{no_more_units}
use Rattle.walk.proofs.Characters.{chars_start}
use Rattle.book.specs.Returns.{Book, longest_text}
use Rattle.book.proofs.Outcomes.{not_done}
use Rattle.cuts.specs.declared.CutError.{CutError}
use Rattle.cuts.specs.Blocks.{Block, blocks_of}
use Rattle.cuts.specs.Slices.{block_of, Placed}
use Rattle.cuts.specs.Tokens.{Base, Written, written}
use Rattle.cuts.specs.Cuts.{CutAnswer, answer, cut_answer, cut_blocks, start}
use Rattle.runs.specs.declared.CharacterClass.{CharacterClass}
use Rattle.runs.specs.declared.Run.{Run}
use Rattle.runs.specs.Runs.{class_of, text_from, Recorded}
use Rattle.splitter.proofs.Sentences.{text_bytes, base_at, placed, passed, block_stops, block_goes_on, no_block_left}

-- where it stands: before the byte `at`, after so many units and characters, with so many tokens written. `one` is what is done with a block of a book, and
-- `Lent` says which books are meant
pub record Cutting (kind : CharacterClass) (class : ℕ → Bool) (Lent : Book → Type 0) (one : Book → Base → Block → Written → CutAnswer)
    (s tokens₀ tokens : List ℕ) (at units base count : ℕ) : Type 0 where
  pub by_class : class_of kind ≡ class
  pub short : length s ≤ longest_text
  pub inside : at ≤ length s
  pub few_units : units ≤ at
  pub well_formed : IsSome (chars_from s at)
  pub counted : base + length (text_from s at) ≡ length (text_from s 0)
  pub same : (b : Book)
      → Lent b
      → cut_blocks (one b) (base_at base at units) (blocks_of class (text_from s at)) (written count tokens)
      ≡ cut_blocks (one b) start (blocks_of class (text_from s 0)) (written 0 tokens₀)

-- before the first block, where the splitter starts
pub begins : {kind : CharacterClass} {class : ℕ → Bool} {Lent : Book → Type 0} {one : Book → Base → Block → Written → CutAnswer} (s tokens : List ℕ) (at : ℕ)
    → class_of kind ≡ class
    → length s ≤ longest_text
    → IsSome (chars_of s)
    → at ≡ 0
    → Cutting kind class Lent one s tokens tokens at 0 0 0
begins s tokens at by_class short some_chars starts =
    rw starts record {
      by_class = by_class;
      short = short;
      inside = omega arith;
      few_units = omega arith;
      well_formed = chars_start s some_chars;
      counted = omega arith;
      same = λ b lent. refl;
    }

module _ {kind : CharacterClass} {class : ℕ → Bool} {Lent : Book → Type 0} {one : Book → Base → Block → Written → CutAnswer}
    {s tokens₀ tokens : List ℕ} {at units base count : ℕ} (here : Cutting kind class Lent one s tokens₀ tokens at units base count) where
  -- what the function ensures, where it ends with this answer
  abbrev Ensured : CutAnswer → Type 0
  Ensured a = (b : Book) → Lent b → a ≡ cut_blocks (one b) start (blocks_of class (text_from s 0)) (written 0 tokens₀)

  -- the sentence ends
  pub ends_here : length s ≤ at → Ensured (answer (Ok tt) (written count tokens))
  ends_here past b lent = no_block_left class s at past (one b) (base_at base at units) (written count tokens) ∙ here.same b lent

  -- the run that starts here is recorded: it lies within the sentence
  module _ {r : Run} {chars offsets : List ℕ} (run : Recorded (class_of kind) s at units r chars offsets) where
    -- the run, by the class that is meant
    of_class : Recorded class s at units r chars offsets
    of_class = subst (λ (c : ℕ → Bool). Recorded c s at units r chars offsets) here.by_class run

    pub run_within : base + r.chars + length (text_from s r.end) ≡ length (text_from s 0)
    run_within = passed class s at units r chars offsets of_class base (length (text_from s 0)) here.counted

    pub run_in_text : base + r.chars ≤ longest_text
    run_in_text = omega (arith, run_within, text_bytes s, here.short)

    -- and no more units than bytes are passed with it
    few_further : r.units ≤ r.end
    few_further = omega (arith, run.bytes, run.units, here.few_units, no_more_units (take r.chars chars))

    -- its block is cut
    module _ (cut : Result ℕ CutError) (after : List ℕ)
        (block : (b : Book) (place : Base) → Lent b → Placed place base (take r.chars chars) offsets
        → cut_answer cut after ≡ one b place (block_of r.matched (take r.chars chars)) (written count tokens)) where
      block_here : (b : Book) → Lent b → cut_answer cut after ≡ one b (base_at base at units) (block_of r.matched (take r.chars chars)) (written count tokens)
      block_here b lent = block b (base_at base at units) lent (placed class s at units r chars offsets of_class base here.short)

      -- and stopped
      pub ends_stopped : {e : CutError} → cut ≡ Err e → Ensured (cut_answer (Err e) after)
      ends_stopped {e} q b lent =
          block_stops class s at units r chars offsets of_class (one b) base (written count tokens) (cut_answer (Err e) after) (rw q at (block_here b lent))
          (not_done e.refusal)
          ∙ here.same b lent

      -- and its tokens are written, and the splitter is moved behind it
      pub goes_behind : {at' m : ℕ} → cut ≡ Ok m → at' ≡ r.end
          → Cutting kind class Lent one s tokens₀ after at' r.units (base + r.chars) m
      goes_behind {m = m} q moved =
          rw moved
          record {
            by_class = here.by_class;
            short = here.short;
            inside = run.inside;
            few_units = few_further;
            well_formed = run.well_formed;
            counted = run_within;
            same = λ b lent.
                block_goes_on class s at units r chars offsets of_class (one b) base (written count tokens) (cut_answer (Ok m) after) (rw q at (block_here b lent)) refl
                ∙ here.same b lent;
          }
