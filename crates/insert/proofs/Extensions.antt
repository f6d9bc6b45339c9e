-- The steps that are new, a turn of the loop at a time. A turn reads a character and makes its step, as `extend` does with the first of the characters
-- left. So the extension still to be made stays that of the whole, and where the loop ends it is made. Assumes nothing.
use Prim.Native.Nat.{ℕ, ◌+◌, ◌-◌, ◌/◌, ◌^◌, ◌≤◌, ◌<◌}
use mathlib.Core.Path.{◌≡◌, refl, sym, ap, ◌∙◌}
use mathlib.Core.List.{List, ◌∷◌}
use mathlib.Core.Option.{IsSome}
use native.Mathlib.Omega.{arith}
use lib.IntN.{ℤ}
use lib.ListN.{length, drop}
use Rattle.std.specs.Prelude.{Result, Ok, Err}
use Rattle.utf8.specs.Characters.{character_at, char}
use Rattle.utf8.specs.Text.{chars_of, chars_from}
use Rattle.utf8.proofs.Positions.{inside, still_chars}
use Rattle.trie.specs.declared.Damaged.{Damaged}
use Rattle.trie.specs.declared.ParentRef.{ParentRef}
use Rattle.trie.specs.Trie.{CharTrie, trie_of, SlotTable, with_word, extend}
use Rattle.walk.specs.Walk.{Inside}
use Rattle.walk.proofs.Places.{inside_same}
use Rattle.insert.specs.Insert.{characters, Stepped, stepped, new_step, extend_stepped}
use Rattle.insert.proofs.NewSteps.{new_inside, extend_end, extend_steps_then_extends}
use Rattle.insert.proofs.Sizes.{table_same}
use Rattle.insert.proofs.Words.{no_more, one_more}

-- ---- the extension by a word, by the step of its first character

module _ (t : CharTrie) (p : ParentRef) (c : ℕ) (cs word : List ℕ) (node : ℕ) (number : ℤ) (split : word ≡ c ∷ cs) where
  after_step : (r : Result ParentRef Damaged) (u : CharTrie) → stepped r u ≡ new_step t p c node → extend_stepped (stepped r u) cs (node + 1) number ≡ extend t p word node number
  after_step r u made = ap (λ (x : Stepped). extend_stepped x cs (node + 1) number) made
      ∙ sym (ap (λ (l : List ℕ). extend t p l node number) split ∙ extend_steps_then_extends t p c cs node number)

  extend_on : (r : Result ParentRef Damaged) (u : CharTrie) (q : ParentRef) → stepped r u ≡ new_step t p c node → r ≡ Ok q
      → extend u q cs (node + 1) number ≡ extend t p word node number
  unfolding extend_stepped
  extend_on r u q made e = ap (λ (x : Result ParentRef Damaged). extend_stepped (stepped x u) cs (node + 1) number) (sym e) ∙ after_step r u made

  extend_stops : (r : Result ParentRef Damaged) (u : CharTrie) → stepped r u ≡ new_step t p c node → (d : Damaged) → r ≡ Err d
      → u ≡ extend t p word node number
  unfolding extend_stepped
  extend_stops r u made d e = ap (λ (x : Result ParentRef Damaged). extend_stepped (stepped x u) cs (node + 1) number) (sym e) ∙ after_step r u made

-- ---- the loop

-- where it stands: at a place and a position from which the extension still to be made comes to the goal
pub record Extending (roots₀ slots₀ s : List ℕ) (number : ℤ) (goal : CharTrie) (roots slots : List ℕ) (p : ParentRef) (at node : ℕ) : Type 0 where
  pub entries : length roots ≡ length roots₀
  pub numbers : length slots ≡ length slots₀
  pub inside : Inside (length roots₀) (length slots₀ / 2) p
  pub well_formed : IsSome (chars_from s at)
  pub room : node + (length s - at) < 2 ^ 32
  pub same : extend (trie_of roots slots) p (characters (drop at s)) node number ≡ goal

pub begins : (roots slots s : List ℕ) (number : ℤ) (p : ParentRef) (at node : ℕ) → Inside (length roots) (length slots / 2) p
    → IsSome (chars_of (drop at s)) → node + length s < 2 ^ 32
    → Extending roots slots s number (extend (trie_of roots slots) p (characters (drop at s)) node number) roots slots p at node
unfolding chars_from
begins roots slots s number p at node inside well_formed room =
    record { entries = refl; numbers = refl; inside = inside; well_formed = well_formed; room = omega arith; same = refl }

module _ {roots₀ slots₀ s : List ℕ} {number : ℤ} {goal : CharTrie} {roots slots : List ℕ} {p : ParentRef} {at node : ℕ}
    (here : Extending roots₀ slots₀ s number goal roots slots p at node) where
  abbrev t : CharTrie
  t = trie_of roots slots

  -- the tables are as long as they were
  pub still_inside : Inside (length roots) (length slots / 2) p
  still_inside = inside_same _ _ _ _ p here.entries here.numbers here.inside

  pub still_table : {shift : ℕ} → SlotTable (length slots₀) shift → SlotTable (length slots) shift
  still_table {shift} table = table_same _ _ shift here.numbers table

  pub ends : (u : CharTrie) → length s ≤ at → u ≡ with_word t p number → u ≡ goal
  ends u past named = named ∙ sym (ap (λ (l : List ℕ). extend t p l node number) (no_more s at past) ∙ extend_end t p node number) ∙ here.same

  module _ {c w units : ℕ} (read : character_at s at ≡ char c w units) {next : Result ParentRef Damaged} (roots' slots' : List ℕ)
      (made : stepped next (trie_of roots' slots') ≡ new_step t p c node) where
    split : characters (drop at s) ≡ c ∷ characters (drop (at + w) s)
    split = one_more s at here.well_formed c w units read

    pub stops : (d : Damaged) → next ≡ Err d → trie_of roots' slots' ≡ goal
    stops d e = extend_stops t p c _ _ node number split next (trie_of roots' slots') made d e ∙ here.same

    pub goes_on : {q : ParentRef} {shift : ℕ} → length roots' ≡ length roots → length slots' ≡ length slots → SlotTable (length slots₀) shift → next ≡ Ok q
        → Extending roots₀ slots₀ s number goal roots' slots' q (at + w) (node + 1)
    goes_on {q} {shift} more numbers table e =
        let width = inside s at c w units read in
        let room = here.room in
        record {
          entries = more ∙ here.entries;
          numbers = numbers ∙ here.numbers;
          inside = inside_same _ _ _ _ q (sym here.entries) (sym here.numbers)
              (new_inside roots slots shift (still_table table) p c node next (trie_of roots' slots') q made e);
          well_formed = still_chars s at here.well_formed c w units read;
          room = omega arith;
          same = extend_on t p c _ _ node number split next (trie_of roots' slots') q made e ∙ here.same;
        }
