-- The text of a word, as a walk reads it: from its start on, and from a position on as the part that the code lends.
-- Assumes nothing.
use Prim.Native.Nat.{ℕ, ◌+◌, ◌-◌}
use mathlib.Core.Path.{◌≡◌, refl, ap}
use mathlib.Core.List.{List}
use mathlib.Core.Option.{Option, none, some, IsSome}
use lib.ListN.{length, take, drop, length-drop}
use lib.Seq.{take-length}
use Rattle.utf8.specs.Characters.{char, character_at}
use Rattle.utf8.specs.Text.{before, chars_of, chars_from}
use Rattle.utf8.proofs.Positions.{from_char, from_start, still_chars}
use Rattle.walk.specs.Walk.{BeginsWith}

pub chars_start : (s : List ℕ) → IsSome (chars_of s) → IsSome (chars_from s 0)
chars_start s some_chars = rw from_start some_chars

-- the part of the text that the code lends, from a position to the end
pub part_chars : (s : List ℕ) (at : ℕ) → chars_of (take (length s - at) (drop at s)) ≡ chars_from s at
unfolding chars_from
part_chars s at = ap chars_of (rw (← length-drop at s) (take-length (drop at s)))

module _ (s : List ℕ) (at : ℕ) where
  module _ (some_chars : IsSome (chars_from s at)) where
    begins : (ch : ℕ) (rest : Option (List ℕ)) → IsSome rest → BeginsWith ch (before ch rest)
    unfolding BeginsWith
    begins ch none some_rest = absurd some_rest
    begins ch (some cs) some_rest = refl

    pub begins_with : (ch w u : ℕ) → character_at s at ≡ char ch w u → BeginsWith ch (chars_of (take (length s - at) (drop at s)))
    begins_with ch w u read = rw (part_chars, from_char s at ch w u read) (begins ch (chars_from s (at + w)) (still_chars s at some_chars ch w u read))
