-- A sentence by its blocks: what a cut that goes block by block comes to, whatever it does with a block. A run that is recorded is the first block of
-- what is left (`Recorded`); the cut is that block's, and then, where it is done, that of the rest.
-- Assumes nothing.
use Rattle.std.specs.Prelude.{Ok}
use mathlib.Core.Path.{◌≡◌, refl, sym, ap, ◌∙◌}
use mathlib.Core.Bool.{Bool, true, false}
use mathlib.Core.List.{List}
use mathlib.Core.Option.{Option, none, some}
use Prim.Native.Nat.{ℕ, ◌+◌, ◌≤◌}
use native.Mathlib.Omega.{arith}
use lib.ListN.{length, take}
use lib.Seq.{length-take-le}
use Rattle.utf8.specs.Text.{chars_of}
use Rattle.utf8.proofs.Texts.{no_more_than_bytes}
use Rattle.utf8.proofs.Positions.{from_start}
use Rattle.book.specs.Returns.{is_done, longest_text}
use Rattle.cuts.specs.Blocks.{Block, blocks_of}
use Rattle.cuts.specs.Slices.{block_of, Placed}
use Rattle.cuts.specs.Tokens.{Base, Written}
use Rattle.cuts.specs.Cuts.{CutAnswer, answer, and_then, behind, cut_blocks}
use Rattle.cuts.proofs.Sequence.{goes_on, stops}
use Rattle.runs.specs.declared.Run.{Run}
use Rattle.runs.specs.Runs.{text_from, Recorded}
use Rattle.runs.proofs.Recordings.{text_end}

-- ---- the characters of a sentence

pub text_start : (s cs : List ℕ) → chars_of s ≡ some cs → text_from s 0 ≡ cs
unfolding text_from
text_start s cs e = rw (text_from, from_start s, e) refl

-- there are no more of them than bytes
text_length : (s : List ℕ) (o : Option (List ℕ)) → chars_of s ≡ o → length (text_from s 0) ≤ length s
unfolding text_from
text_length s none e = rw (text_from, from_start s, e) (omega arith)
text_length s (some cs) e = rw (text_start s cs e) (no_more_than_bytes s cs e)

pub text_bytes : (s : List ℕ) → length (text_from s 0) ≤ length s
text_bytes s = text_length s (chars_of s) refl

-- ---- a run among what is left

-- after so many characters, bytes and units
abbrev pub base_at : ℕ → ℕ → ℕ → Base
base_at chars bytes units = record { chars = chars; bytes = bytes; units = units }

module _ (class : ℕ → Bool) (s : List ℕ) (at from : ℕ) (r : Run) (chars offsets : List ℕ) (run : Recorded class s at from r chars offsets) where
  run_length : length (take r.chars chars) ≡ r.chars
  run_length = length-take-le r.chars chars (omega (arith, run.fits))

  -- the characters before the rest
  pub passed : (base whole : ℕ) → base + length (text_from s at) ≡ whole → base + r.chars + length (text_from s r.end) ≡ whole
  passed base whole e = let c = run.counted in omega arith

  -- where it stands, after so many characters
  pub placed : (base : ℕ) → length s ≤ longest_text → Placed (base_at base at from) base (take r.chars chars) offsets
  placed base short = record { after = refl; from = run.offset; short = omega (arith, run.bytes, run.inside) }

  -- its block, and then the rest
  module _ (one : Base → Block → Written → CutAnswer) (base : ℕ) (w : Written) where
    -- where it stands, and where the rest does
    abbrev here : Base
    here = base_at base at from

    abbrev further : Base
    further = base_at (base + r.chars) r.end r.units

    -- the rest starts behind it
    is_behind : behind here (take r.chars chars) ≡ further
    is_behind = rw (run_length, ← run.bytes, ← run.units)

    block_first : cut_blocks one here (blocks_of class (text_from s at)) w
        ≡ and_then (one here (block_of r.matched (take r.chars chars)) w) (cut_blocks one further (blocks_of class (text_from s r.end)))
    unfolding cut_blocks
    block_first =
        ap (λ (bs : List Block). cut_blocks one here bs w) run.block
        ∙ ap (λ (k : Base). and_then (one here (block_of r.matched (take r.chars chars)) w) (cut_blocks one k (blocks_of class (text_from s r.end))))
        is_behind

    module _ (a : CutAnswer) (cut : a ≡ one here (block_of r.matched (take r.chars chars)) w) where
      pub block_stops : is_done a.outcome ≡ false → a ≡ cut_blocks one here (blocks_of class (text_from s at)) w
      block_stops other = sym (block_first ∙ rw (← cut) (stops a (cut_blocks one further (blocks_of class (text_from s r.end))) other))

      pub block_goes_on : is_done a.outcome ≡ true
          → cut_blocks one further (blocks_of class (text_from s r.end)) a.written ≡ cut_blocks one here (blocks_of class (text_from s at)) w
      block_goes_on done = sym (block_first ∙ rw (← cut) (goes_on a (cut_blocks one further (blocks_of class (text_from s r.end))) done))

-- at the sentence's end no block is left
pub no_block_left : (class : ℕ → Bool) (s : List ℕ) (at : ℕ) → length s ≤ at → (one : Base → Block → Written → CutAnswer) (base : Base) (w : Written)
    → answer (Ok tt) w ≡ cut_blocks one base (blocks_of class (text_from s at)) w
unfolding cut_blocks blocks_of
no_block_left class s at past one base w = rw (text_end s at past) refl
