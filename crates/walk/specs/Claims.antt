-- What is claimed of the definitions of `Walk`: the root's step is the trie's, and a step from a place of the tables leads to a place of the
-- tables. Proofs: `proofs/Places.antt`.
-- Assumes nothing.
use Rattle.std.specs.Prelude.{ℕ, List, ◌≡◌, length, Ok, Some}
use Rattle.trie.specs.declared.ParentRef.{ParentRef}
use Rattle.trie.specs.declared.ParentRef.TheVariants.{Root}
use Rattle.trie.specs.Trie.{CharTrie, SlotCount, open_step, tested_step, walk}
use Rattle.walk.specs.Walk.{Inside, first_step}

-- the first step, of an insertion and of a lookup: the root has no bits to test
abbrev pub FirstStepIsOpen : Type 0
FirstStepIsOpen = (t : CharTrie) (ch : ℕ) → open_step t Root ch ≡ first_step t.root_children t.keys ch

abbrev pub FirstStepIsTested : Type 0
FirstStepIsTested = (t : CharTrie) (ch : ℕ) → tested_step t Root ch ≡ first_step t.root_children t.keys ch

-- a step leads to a root entry or a slot that is there
abbrev pub OpenStepsInside : Type 0
OpenStepsInside = (t : CharTrie) (p q : ParentRef) (ch : ℕ) → SlotCount (length t.keys) → open_step t p ch ≡ Ok (Some q)
    → Inside (length t.root_children) (length t.keys) q

abbrev pub TestedStepsInside : Type 0
TestedStepsInside = (t : CharTrie) (p q : ParentRef) (ch : ℕ) → SlotCount (length t.keys) → tested_step t p ch ≡ Ok (Some q)
    → Inside (length t.root_children) (length t.keys) q

-- and so does a walk from the root
abbrev pub WalksInside : Type 0
WalksInside = (t : CharTrie) (q : ParentRef) (cs : List ℕ) → SlotCount (length t.keys) → walk t Root cs ≡ Ok (Some q)
    → Inside (length t.root_children) (length t.keys) q
