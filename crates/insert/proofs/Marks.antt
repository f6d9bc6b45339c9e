-- The steps that are there, a turn of the loop at a time, and what is left after them. A turn reads a character, takes its step and sets its bits, as
-- `mark` does with the first of the characters left. So the marks still to be made stay those of the whole word, and where the loop ends they are
-- made. Insertion follows the same steps, so that after them only an extension is left.
-- Assumes nothing.
use Prim.Native.Nat.{ℕ, ◌+◌, ◌/◌, ◌≤◌}
use mathlib.Core.Path.{◌≡◌, refl, sym, ap, ◌∙◌}
use mathlib.Core.List.{List, [], ◌∷◌}
use mathlib.Core.Option.{IsSome}
use lib.IntN.{ℤ}
use lib.ListN.{length, drop}
use Rattle.std.specs.Prelude.{Result, Ok, Err, Some, None, IsErr}
use Rattle.utf8.specs.Characters.{character_at, char}
use Rattle.utf8.specs.Text.{chars_of, chars_from}
use Rattle.utf8.proofs.Positions.{still_chars}
use Rattle.trie.specs.declared.Damaged.{Damaged}
use Rattle.trie.specs.declared.ParentRef.{ParentRef}
use Rattle.trie.specs.declared.ParentRef.TheVariants.{Root}
use Rattle.trie.specs.Trie.{trie_of, CharTrie, SlotTable, open_step, Reached, NoEnd, with_bits, extend, insert, Step}
use Rattle.trie.proofs.Damage.{handed_on}
use Rattle.walk.specs.Walk.{Inside}
use Rattle.walk.proofs.Places.{starts_inside, inside_same, leads_open}
use Rattle.insert.specs.declared.Marked.{Marked}
use Rattle.insert.specs.Insert.{characters, MarkedTrie, marked, mark, extend_marked, reach_of, Ready}
use Rattle.insert.specs.Claims.{InsertMarksThenExtends}
use Rattle.insert.proofs.Sizes.{table_same}
use Rattle.insert.proofs.Words.{no_more, one_more}

-- ---- the marks of a word, by the step of its first character

module _ (t : CharTrie) (p : ParentRef) (c : ℕ) (cs word : List ℕ) (split : word ≡ c ∷ cs) (r : Step) (opened : r ≡ open_step t p c) where
  mark_there : (q : ParentRef) (u : CharTrie) → r ≡ Ok (Some q) → u ≡ with_bits t p c → mark u q cs ≡ mark t p word
  unfolding mark
  mark_there q u e bits = rw (split, ← opened, e, bits, mark)

  mark_absent : r ≡ Ok None → marked (Reached p word) t ≡ mark t p word
  unfolding mark
  mark_absent e = rw (split, ← opened, e, mark)

  mark_damaged : (d : Damaged) → r ≡ Err d → marked NoEnd t ≡ mark t p word
  unfolding mark
  mark_damaged d e = rw (split, ← opened, e, mark)

mark_end : (t : CharTrie) (p : ParentRef) (word : List ℕ) → word ≡ [] → marked (Reached p word) t ≡ mark t p word
unfolding mark
mark_end t p word e = rw e

-- ---- the loop

-- where it stands: at a place and a position from which the marks still to be made are those of the whole word
pub record Marking (roots₀ slots₀ s roots slots : List ℕ) (p : ParentRef) (at : ℕ) : Type 0 where
  pub entries : length roots ≡ length roots₀
  pub numbers : length slots ≡ length slots₀
  pub inside : Inside (length roots₀) (length slots₀ / 2) p
  pub well_formed : IsSome (chars_from s at)
  pub same : mark (trie_of roots slots) p (characters (drop at s)) ≡ mark (trie_of roots₀ slots₀) Root (characters s)

pub begins : (roots slots s : List ℕ) → IsSome (chars_of s) → Marking roots slots s roots slots Root 0
unfolding chars_from
begins roots slots s whole = record { entries = refl; numbers = refl; inside = starts_inside _ _; well_formed = whole; same = refl }

abbrev up_to : ParentRef → ℕ → Result Marked Damaged
up_to p at = Ok (record { place = p; at = at })

-- what the function ensures, where it ends with r
abbrev Marks : List ℕ → List ℕ → List ℕ → List ℕ → List ℕ → Result Marked Damaged → Type 0
Marks roots₀ slots₀ s roots slots r =
    Ready (length roots₀) (length slots₀) s r × (marked (reach_of s r) (trie_of roots slots) ≡ mark (trie_of roots₀ slots₀) Root (characters s))

module _ {roots₀ slots₀ s roots slots : List ℕ} {p : ParentRef} {at : ℕ} (here : Marking roots₀ slots₀ s roots slots p at) where
  pub ends : length s ≤ at → Marks roots₀ slots₀ s roots slots (up_to p at)
  unfolding Ready reach_of chars_from
  ends past = ((here.inside, here.well_formed), mark_end _ p _ (no_more s at past) ∙ here.same)

  -- the tables are as long as they were
  pub still_inside : Inside (length roots) (length slots / 2) p
  still_inside = inside_same _ _ _ _ p here.entries here.numbers here.inside

  pub still_table : {shift : ℕ} → SlotTable (length slots₀) shift → SlotTable (length slots) shift
  still_table {shift} table = table_same _ _ shift here.numbers table

  module _ {c w u : ℕ} (read : character_at s at ≡ char c w u) {next : Step} (opened : next ≡ open_step (trie_of roots slots) p c) where
    split : characters (drop at s) ≡ c ∷ characters (drop (at + w) s)
    split = one_more s at here.well_formed c w u read

    pub ends_absent : next ≡ Ok None → Marks roots₀ slots₀ s roots slots (up_to p at)
    unfolding Ready reach_of chars_from
    ends_absent e = ((here.inside, here.well_formed), mark_absent _ p c _ _ split next opened e ∙ here.same)

    pub ends_damaged : (d : Damaged) → next ≡ Err d → (x : Result Marked Damaged) → IsErr x → Marks roots₀ slots₀ s roots slots x
    unfolding Ready reach_of
    ends_damaged d e x fails = rw (handed_on x fails d) (tt, mark_damaged _ p c _ _ split next opened d e ∙ here.same)

    module _ (roots' slots' : List ℕ) (bits : trie_of roots' slots' ≡ with_bits (trie_of roots slots) p c) where
      pub goes_on : {q : ParentRef} {shift : ℕ} → length roots' ≡ length roots → length slots' ≡ length slots → SlotTable (length slots₀) shift → next ≡ Ok (Some q)
          → Marking roots₀ slots₀ s roots' slots' q (at + w)
      goes_on {q} {shift} more numbers table e =
          let below = leads_open roots slots shift (still_table table) p q c next e opened in
          record {
            entries = more ∙ here.entries;
            numbers = numbers ∙ here.numbers;
            inside = inside_same _ _ _ _ q (sym here.entries) (sym here.numbers) below;
            well_formed = still_chars s at here.well_formed c w u read;
            same = mark_there _ p c _ _ split next opened q _ e bits ∙ here.same;
          }

-- ---- what is left after them

pub insert_marks_then_extends : InsertMarksThenExtends
unfolding insert mark extend_marked extend
insert_marks_then_extends t p [] node number = refl
insert_marks_then_extends t p (c ∷ cs) node number = by_step (open_step t p c) (λ q. insert_marks_then_extends (with_bits t p c) q cs node number)
  where
    by_step : (r : Step) → ((q : ParentRef) → insert (with_bits t p c) q cs node number ≡ extend_marked (mark (with_bits t p c) q cs) node number)
        → elim r [ Ok (Some q) ↦ insert (with_bits t p c) q cs node number | Ok None ↦ extend t p (c ∷ cs) node number | Err d ↦ t ]
        ≡ extend_marked (elim r [ Ok (Some q) ↦ mark (with_bits t p c) q cs | Ok None ↦ marked (Reached p (c ∷ cs)) t | Err d ↦ marked NoEnd t ]) node number
    by_step (Ok (Some q)) rest = rest q
    by_step (Ok None) rest = refl
    by_step (Err d) rest = refl

module _ (t u : CharTrie) (s word : List ℕ) (r : Result Marked Damaged) (node : ℕ) (number : ℤ) (marks : marked (reach_of s r) u ≡ mark t Root word) where
  pub inserted : (m : Marked) (v : CharTrie) → r ≡ Ok m → v ≡ extend u m.place (characters (drop m.at s)) node number
      → v ≡ insert t Root word node number
  unfolding reach_of extend_marked
  inserted m v e extended =
      extended ∙ ap (λ (x : Result Marked Damaged). extend_marked (marked (reach_of s x) u) node number) (sym e)
      ∙ ap (λ (m : MarkedTrie). extend_marked m node number) marks ∙ sym (insert_marks_then_extends t Root word node number)

  pub not_inserted : (d : Damaged) → r ≡ Err d → u ≡ insert t Root word node number
  unfolding reach_of extend_marked
  not_inserted d e = ap (λ (x : Result Marked Damaged). extend_marked (marked (reach_of s x) u) node number) (sym e)
      ∙ ap (λ (m : MarkedTrie). extend_marked m node number) marks ∙ sym (insert_marks_then_extends t Root word node number)

-- a place and a position that the marks end at
module _ (entries numbers : ℕ) (s : List ℕ) (r : Result Marked Damaged) (ready : Ready entries numbers s r) (m : Marked) (e : r ≡ Ok m) where
  pub place_ready : Inside entries (numbers / 2) m.place
  unfolding Ready
  place_ready = (rw e at ready).0

  pub rest_ready : IsSome (chars_of (drop m.at s))
  unfolding Ready
  rest_ready = (rw e at ready).1
