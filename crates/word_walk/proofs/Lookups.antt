-- A lookup along a text, a character at a time. The steps of a text from a position on are the step of the character that is read there, and from
-- where it leads those of the text after it. Where they all lead, the word number there says what is found.
-- Assumes nothing.
use Prim.Native.Nat.{ℕ, ◌+◌, ◌/◌, ◌≤◌}
use mathlib.Core.Path.{◌≡◌, refl, sym, ◌∙◌}
use mathlib.Core.List.{List}
use mathlib.Core.Option.{Option, none, some, IsSome}
use native.Mathlib.Omega.{arith}
use lib.ListN.{length}
use Rattle.std.specs.Prelude.{Ok, Err, Some, None, IsErr}
use Rattle.trie.specs.declared.Damaged.{Damaged}
use Rattle.trie.specs.declared.ParentRef.{ParentRef}
use Rattle.trie.specs.declared.ParentRef.TheVariants.{Root}
use Rattle.trie.specs.Trie.{CharTrie, SlotTable, tested_step, walk, word_at, get_of, trie_of, Step, WordNumber}
use Rattle.trie.proofs.Damage.{handed_on}
use Rattle.utf8.specs.Characters.{character_at, char}
use Rattle.utf8.specs.Text.{before, chars_from}
use Rattle.utf8.proofs.Positions.{from_char, from_end, still_chars}
use Rattle.walk.specs.Walk.{Inside, walk_from, got_of}
use Rattle.walk.proofs.Places.{leads_walk}

-- ---- a lookup, from a position of a text on, by the step of the character there

module _ (t : CharTrie) (p : ParentRef) (ch : ℕ) where
  walk_char : (q : ParentRef) (rest : Option (List ℕ)) → tested_step t p ch ≡ Ok (Some q) → walk_from t q rest ≡ walk_from t p (before ch rest)
  unfolding walk_from walk
  walk_char q none e = refl
  walk_char q (some cs) e = rw (e, walk)

  walk_stops : (rest : Option (List ℕ)) → tested_step t p ch ≡ Ok None → Ok None ≡ walk_from t p (before ch rest)
  unfolding walk_from walk
  walk_stops none e = refl
  walk_stops (some cs) e = rw (e, walk)

  walk_breaks : (rest : Option (List ℕ)) → IsSome rest → (d : Damaged) → tested_step t p ch ≡ Err d → Err d ≡ walk_from t p (before ch rest)
  unfolding walk_from walk
  walk_breaks none some_chars d e = absurd some_chars
  walk_breaks (some cs) some_chars d e = rw (e, walk)

module _ (t : CharTrie) (p : ParentRef) (s : List ℕ) (at : ℕ) (r : Step) (same : walk_from t p (chars_from s at) ≡ r) where
  pub walk_end : length s ≤ at → Ok (Some p) ≡ r
  unfolding walk_from walk
  walk_end h = rw (from_end s at h) at same

  module _ (ch w u : ℕ) (read : character_at s at ≡ char ch w u) (x : Step) (step : x ≡ tested_step t p ch) where
    at_char : walk_from t p (before ch (chars_from s (at + w))) ≡ r
    at_char = rw (from_char s at ch w u read) at same

    pub walk_next : (q : ParentRef) → x ≡ Ok (Some q) → walk_from t q (chars_from s (at + w)) ≡ r
    walk_next q e = walk_char t p ch q (chars_from s (at + w)) (sym step ∙ e) ∙ at_char

    pub walk_nothing : x ≡ Ok None → Ok None ≡ r
    walk_nothing e = walk_stops t p ch (chars_from s (at + w)) (sym step ∙ e) ∙ at_char

    pub walk_damaged : IsSome (chars_from s at) → (d : Damaged) → x ≡ Err d → (y : Step) → IsErr y → y ≡ r
    walk_damaged some_chars d e y fails = handed_on y fails d ∙ walk_breaks t p ch (chars_from s (at + w)) (still_chars s at some_chars ch w u read) d (sym step ∙ e) ∙ at_char

-- ---- what a lookup finds, by where its steps lead and by the word number there

module _ (used : ℕ) (t : CharTrie) where
  got_at : (chars : Option (List ℕ)) (p : ParentRef) → walk_from t Root chars ≡ Ok (Some p) → word_at used t p ≡ got_of used t chars
  unfolding walk_from got_of get_of
  got_at none p e = let z : ◌≡◌ {A = ℕ} 0 1 = cc in absurd (omega arith)
  got_at (some cs) p e = rw (e, get_of)

  got_nothing : (chars : Option (List ℕ)) → walk_from t Root chars ≡ Ok None → Ok None ≡ got_of used t chars
  unfolding walk_from got_of get_of
  got_nothing none e = refl
  got_nothing (some cs) e = rw (e, get_of)

  got_damaged : (chars : Option (List ℕ)) (d : Damaged) → walk_from t Root chars ≡ Err d → Err d ≡ got_of used t chars
  unfolding walk_from got_of get_of
  got_damaged none d e = let z : ◌≡◌ {A = ℕ} 0 1 = cc in absurd (omega arith)
  got_damaged (some cs) d e = rw (e, get_of)

-- as the code knows them
module _ (used : ℕ) (t : CharTrie) (chars : Option (List ℕ)) (r : Step) (walked : r ≡ walk_from t Root chars) where
  pub get_nothing : r ≡ Ok None → Ok None ≡ got_of used t chars
  get_nothing e = got_nothing used t chars (sym walked ∙ e)

  pub get_damaged : (d : Damaged) → r ≡ Err d → (y : WordNumber) → IsErr y → y ≡ got_of used t chars
  get_damaged d e y fails = handed_on y fails d ∙ got_damaged used t chars d (sym walked ∙ e)

  pub get_number : (p : ParentRef) → r ≡ Ok (Some p) → (number : WordNumber) → number ≡ word_at used t p → number ≡ got_of used t chars
  get_number p at number read = read ∙ got_at used t chars p (sym walked ∙ at)

-- the place whose word number a lookup reads is one of the tables
pub reads_inside : (roots slots : List ℕ) (shift : ℕ) → SlotTable (length slots) shift → (chars : Option (List ℕ)) (r : Step) (p : ParentRef)
    → r ≡ walk_from (trie_of roots slots) Root chars → r ≡ Ok (Some p) → Inside (length roots) (length slots / 2) p
unfolding walk_from
reads_inside roots slots shift table none r p walked at = let z : ◌≡◌ {A = ℕ} 0 1 = cc in absurd (omega arith)
reads_inside roots slots shift table (some cs) r p walked at = leads_walk roots slots shift table p cs (sym walked ∙ at)
