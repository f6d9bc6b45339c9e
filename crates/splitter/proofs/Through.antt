-- Every text has its turns. Where the text goes on there is a run, with its characters and offsets: what the loop of `next_recording` does, as a recursion over
-- the bytes that are left, by the same laws. Each run ends further on, so the turns end too.
-- Assumes nothing.
use Prim.Native.Nat.{ℕ, zero, suc, ◌+◌, ◌≤◌, ◌<◌}
use mathlib.Core.Bool.{Bool, true, false, not, beq}
use mathlib.Core.List.{List, []}
use mathlib.Core.Option.{IsSome}
use mathlib.Core.Path.{◌≡◌, refl, subst}
use native.Mathlib.Omega.{arith}
use borrow.Author.Tests.{ltb-true}
use lib.ListN.{length, replicate, length-replicate}
use Rattle.std.specs.Prelude.{Ok, Err, Some, None}
use Rattle.utf8.specs.Characters.{Read, char, malformed, character_at}
use Rattle.utf8.specs.Text.{chars_from}
use Rattle.utf8.proofs.Positions.{from_malformed, inside, not_within}
use Rattle.walk.proofs.Characters.{chars_start}
use Rattle.cuts.specs.Blocks.{Block}
use Rattle.cuts.specs.Slices.{packed}
use Rattle.runs.specs.declared.CharacterClass.{CharacterClass}
use Rattle.runs.specs.declared.Run.{Run}
use Rattle.splitter.specs.declared.SplitByCharacterClass.{SplitByCharacterClass}
use Rattle.runs.specs.Runs.{class_of, text_from, Recorded}
use Rattle.splitter.specs.Turns.{InTurn, ended, turned, begun, moved_to, has_next, EveryTextInTurn}
use Rattle.runs.proofs.Classes.{same_kind}
use Rattle.runs.proofs.Blocks.{EndsBefore}
use Rattle.runs.proofs.Recordings.{Recording, nothing_read, one_more_read, ends_with_text, ends_at_character, run_recorded}
use Rattle.splitter.proofs.Turns.{blocks_in_turn}

-- ---- a run

module _ (class : ℕ → Bool) (s : List ℕ) (at : ℕ) where
  -- a run that starts there, recorded with UTF-16 offsets that count from it
  abbrev ARun : Type 0
  ARun = (r : Run) × (chars : List ℕ) × (offsets : List ℕ) × Recorded class s at 0 r chars offsets

  malformed_not : (end : ℕ) → IsSome (chars_from s end) → character_at s end ≡ malformed → ⊥
  malformed_not end well_formed e = rw (from_malformed s end e) at well_formed

  -- what is recorded so far is the run, or its next character is of the run's kind
  module _ (matched : Bool) (n end reached : ℕ) (chars offsets : List ℕ) (so_far : Recording class s at 0 matched n end reached chars offsets) (some_read : 1 ≤ n)
      (forward : at + n ≤ end) where
    stop : EndsBefore class matched (text_from s end) → ARun
    stop ends = (_, _, _, run_recorded class s at 0 matched n end reached chars offsets so_far ends some_read (omega arith) _ refl)

    run_or_more : ((c w u : ℕ) → character_at s end ≡ char c w u → class c ≡ matched → ARun) → ARun
    run_or_more more = reads (character_at s end) refl
      where
        takes : (c w u : ℕ) → character_at s end ≡ char c w u → (other : Bool) → not (beq (class c) matched) ≡ other → ARun
        takes c w u e true other = stop (ends_at_character class s at 0 matched n end reached chars offsets so_far c w u (class c) e refl other)
        takes c w u e false same = more c w u e (same_kind (class c) matched same)

        reads : (ch : Read) → character_at s end ≡ ch → ARun
        reads (Ok None) e = stop (ends_with_text class s at 0 matched n end reached chars offsets so_far (not_within s end e))
        reads (Err y) e = absurd (malformed_not end so_far.well_formed e)
        reads (Ok (Some q)) e = takes q.value q.width q.units e (not (beq (class q.value) matched)) refl

  -- and so on, with the bytes that are left
  go_on : (left : ℕ) (matched : Bool) (n end reached : ℕ) (chars offsets : List ℕ) → length s < end + left → 1 ≤ n → at + n ≤ end
      → Recording class s at 0 matched n end reached chars offsets → ARun
  go_on zero matched n end reached chars offsets enough some_read forward so_far = absurd (omega (arith, so_far.inside_text))
  go_on (suc left) matched n end reached chars offsets enough some_read forward so_far =
      run_or_more matched n end reached chars offsets so_far some_read forward
      (λ c w u e same.
      go_on left matched (n + 1) (end + w) (reached + packed w u) _ _ (omega (arith, inside s end c w u e)) (omega arith) (omega (arith, inside s end c w u e))
      (one_more_read class s at 0 matched n end reached chars offsets so_far c w u e same _ refl))

  pub a_run : at < length s → IsSome (chars_from s at) → ARun
  a_run within well_formed = reads (character_at s at) refl
    where
      room : List ℕ
      room = replicate (suc (length (text_from s at))) 0

      enough : length (text_from s at) < length room
      enough = rw (length-replicate {A = ℕ} (suc (length (text_from s at))) 0) (omega arith)

      reads : (ch : Read) → character_at s at ≡ ch → ARun
      reads (Ok None) e = absurd (omega (arith, not_within s at e))
      reads (Err y) e = absurd (malformed_not at well_formed e)
      reads (Ok (Some q)) e =
          let c : ℕ = q.value in
          let w : ℕ = q.width in
          let u : ℕ = q.units in
          go_on (length s) (class c) (0 + 1) (at + w) (packed at 0 + packed w u) _ _ (omega (arith, inside s at c w u e)) (omega arith) (omega (arith, inside s at c w u e))
          (one_more_read class s at 0 (class c) 0 at (packed at 0) room room
          (nothing_read class s at 0 (class c) room room within well_formed enough enough (packed at 0) refl) c w u e refl _ refl)

-- ---- and the turns

module _ (class : CharacterClass) where
  -- a splitter's turns, with their blocks
  abbrev Turns : SplitByCharacterClass → Type 0
  Turns d = (bs : List Block) × InTurn class d bs

  none_or_more : (d : SplitByCharacterClass) → (has_next d ≡ true → Turns d) → (answer : Bool) → has_next d ≡ answer → Turns d
  none_or_more d more false none = ([], ended none)
  none_or_more d more true one = more one

  turns : (left : ℕ) (d : SplitByCharacterClass) → length d.text.now < d.pos + left → d.pos ≤ length d.text.now
      → IsSome (chars_from d.text.now d.pos) → Turns d
  turns zero d enough within well_formed = absurd (omega arith)
  turns (suc left) d enough within well_formed =
      none_or_more d
      (λ one.
      let run = a_run (class_of class) d.text.now d.pos (ltb-true _ _ one) well_formed in
      let recorded = run.3 in
      let rest = turns left (moved_to d run.0.end) (omega (arith, recorded.forward)) recorded.inside recorded.well_formed in
      (_, turned run.0 0 run.1 run.2 one recorded rest.1))
      (has_next d) refl

pub every_text_in_turn : EveryTextInTurn
every_text_in_turn class text cs well_formed =
    let all = turns class (suc (length text.now)) (begun text) (omega arith) (omega arith) (chars_start text.now (rw well_formed tt)) in
    subst (InTurn class (begun text)) (blocks_in_turn class text cs all.0 well_formed all.1) all.1
