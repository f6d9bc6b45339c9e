-- An insertion along a text, a character at a time, before anything is written. What a text finds from a position on is what the text after the
-- character there finds from where its step leads; where that step is missing, new steps for all that is left; at the end, the word number there.
-- Assumes nothing.
use Prim.Native.Nat.{ℕ, ◌+◌, ◌-◌, ◌≤◌}
use mathlib.Core.Path.{◌≡◌, refl, sym, ap, ◌∙◌}
use mathlib.Core.List.{List, ◌∷◌}
use mathlib.Core.Option.{Option, none, some, IsSome}
use lib.ListN.{length, take, drop}
use Rattle.std.specs.Prelude.{Result, Ok, Err, Some, None, IsErr}
use Rattle.trie.specs.declared.Damaged.{Damaged}
use Rattle.trie.specs.declared.ParentRef.{ParentRef}
use Rattle.trie.specs.Trie.{CharTrie, open_step, word_at, reach, trie_of, Step, WordNumber}
use Rattle.trie.proofs.Damage.{handed_on}
use Rattle.utf8.specs.Characters.{character_at, char}
use Rattle.utf8.specs.Text.{before, chars_of, chars_from}
use Rattle.utf8.proofs.Positions.{from_char, from_end, still_chars}
use Rattle.walk.specs.declared.Room.{Room}
use Rattle.walk.specs.declared.Room.TheVariants.{Whole}
use Rattle.walk.specs.Walk.{new_steps, room_at, room_from}
use Rattle.walk.proofs.Characters.{part_chars}

-- ---- an insertion, from a position of a text on, by the step of the character there

module _ (used : ℕ) (t : CharTrie) (p : ParentRef) (ch : ℕ) where
  room_char : (q : ParentRef) (rest : Option (List ℕ)) → open_step t p ch ≡ Ok (Some q) → room_from used t q rest ≡ room_from used t p (before ch rest)
  unfolding room_from reach
  room_char q none e = refl
  room_char q (some cs) e = rw (e, reach)

  room_stops : (rest : Option (List ℕ)) (r : Room) → IsSome rest → ((cs : List ℕ) → before ch rest ≡ some cs → r ≡ new_steps t p cs)
      → open_step t p ch ≡ Ok None → Ok r ≡ room_from used t p (before ch rest)
  unfolding room_from room_at reach
  room_stops none r some_chars new e = absurd some_chars
  room_stops (some cs) r some_chars new e = rw (e, reach) (ap Ok (new (ch ∷ cs) refl))

  room_breaks : (rest : Option (List ℕ)) (d : Damaged) → open_step t p ch ≡ Err d → Err d ≡ room_from used t p (before ch rest)
  unfolding room_from room_at reach
  room_breaks none d e = refl
  room_breaks (some cs) d e = rw (e, reach)

module _ (used : ℕ) (roots slots : List ℕ) (p : ParentRef) (s : List ℕ) (at : ℕ) (found : Result Room Damaged) where
  abbrev tables : CharTrie
  tables = trie_of roots slots

  module _ (same : room_from used tables p (chars_from s at) ≡ found) where
    pub room_whole : (number : WordNumber) → number ≡ word_at used tables p → length s ≤ at → Ok (Whole number) ≡ found
    unfolding room_from room_at reach
    room_whole number read h = ap (λ (n : WordNumber). Ok (Whole n)) read ∙ rw (from_end s at h) at same

    module _ (ch w u : ℕ) (read : character_at s at ≡ char ch w u) (r : Step) (step : r ≡ open_step tables p ch) where
      at_char : room_from used tables p (before ch (chars_from s (at + w))) ≡ found
      at_char = rw (from_char s at ch w u read) at same

      pub room_next : (q : ParentRef) → r ≡ Ok (Some q) → room_from used tables q (chars_from s (at + w)) ≡ found
      room_next q e = room_char used tables p ch q (chars_from s (at + w)) (sym step ∙ e) ∙ at_char

      pub room_damaged : (d : Damaged) → r ≡ Err d → (y : Result Room Damaged) → IsErr y → y ≡ found
      room_damaged d e y fails = handed_on y fails d ∙ room_breaks used tables p ch (chars_from s (at + w)) d (sym step ∙ e) ∙ at_char

      pub room_missing : IsSome (chars_from s at) → r ≡ Ok None → (x : Room)
          → ((slots' cs : List ℕ) → chars_of (take (length s - at) (drop at s)) ≡ some cs → x ≡ new_steps (trie_of roots slots') p cs)
          → Ok x ≡ found
      room_missing some_chars e x new =
          let all = part_chars s at ∙ from_char s at ch w u read in
          room_stops used tables p ch (chars_from s (at + w)) x (still_chars s at some_chars ch w u read)
          (λ cs chars. new slots cs (all ∙ chars)) (sym step ∙ e) ∙ at_char
