-- Places, and steps from them. A root entry is reached only by a character below the root's length, and a slot only by a probe, which ends
-- within the slots: so every step leads to a place of the tables. A lookup's step is what the code works out from each kind of place: from the root
-- `first_step`, from a root entry or a slot one from its child, with the bits of the key and the child first. An insertion's is `first_step` where it uses
-- the root table, and else what the probe for the place's node says. Assumes nothing.
use Prim.Native.Nat.{ℕ, ◌/◌, ◌%◌, ◌^◌, ◌≤◌, ◌<◌}
use mathlib.Core.Path.{◌≡◌, refl, sym, ◌∙◌, subst}
use mathlib.Core.Bool.{Bool, true, false, cond, false≢true}
use mathlib.Core.List.{List, [], ◌∷◌}
use native.Mathlib.Omega.{arith}
use borrow.Author.Tests.{ltb-true, lt-ltb, le-ltb, eq-eqb, ne_eqb}
use lib.Dec.{ltb, eqb}
use lib.ListN.{length, get_or}
use Rattle.std.specs.Prelude.{Result, Ok, Err, Some, None}
use Rattle.trie.specs.declared.ParentRef.{ParentRef}
use Rattle.trie.specs.declared.ParentRef.TheVariants.{Root, RootEntry, Slot}
use Rattle.trie.specs.declared.Probe.{Probe}
use Rattle.trie.specs.declared.Probe.TheVariants.{Found, Empty}
use Rattle.trie.specs.declared.Damaged.{Damaged}
use Rattle.trie.specs.Trie.{CharTrie, child_of, word_of, children_of, keys_of, links_of, word_number, word_at, SlotCount, SlotTable, key_of, node_at, from_root, Step, WordNumber}
use Rattle.trie.specs.Trie.{probe_of, step_by_probe, root_step, slot_step, open_step}
use Rattle.trie.specs.Trie.{bits_at, tested_step, step_from, walk, trie_of}
use Rattle.trie.specs.Claims.{all_ones}
use Rattle.trie.proofs.Packed.{length_children, child_at, word_at_lem, keys_whole}
use Rattle.trie.proofs.Probes.{found_has_key}
use Rattle.trie.proofs.Steps.{steps_from_slot, steps_from_root_entry}
use Rattle.walk.specs.Walk.{Inside, first_step}
use Rattle.walk.specs.Claims.{FirstStepIsOpen, FirstStepIsTested, OpenStepsInside, TestedStepsInside, WalksInside}

-- ---- the root's step

first_by : (t : CharTrie) (ch : ℕ) (below : Bool)
    → elim below [ true ↦ root_step t ch | false ↦ slot_step t Root ch ] ≡ cond below (root_step t ch) (slot_step t Root ch)
first_by t ch true = refl
first_by t ch false = refl

pub first_step_is_open : FirstStepIsOpen
unfolding open_step from_root node_at first_step
first_step_is_open t ch = first_by t ch (ltb ch (length t.root_children))

pub first_step_is_tested : FirstStepIsTested
unfolding tested_step bits_at
first_step_is_tested t ch = first_step_is_open t ch

-- ---- a step uses the root table only from the root, and where the character has an entry there

pub only_first : (t : CharTrie) (p : ParentRef) (ch : ℕ) → from_root t p ch ≡ true → (p ≡ Root) × (ch < length t.root_children)
unfolding from_root
only_first t Root ch e = (refl, ltb-true ch (length t.root_children) e)
only_first t (RootEntry i) ch e = absurd (false≢true e)
only_first t (Slot i) ch e = absurd (false≢true e)

-- ---- steps stay inside

-- where a step leads, if anywhere, is a place of the tables
abbrev pub LeadsInside : CharTrie → Step → Type 0
LeadsInside t (Ok (Some q)) = Inside (length t.root_children) (length t.keys) q
LeadsInside t (Ok None) = Unit {0}
LeadsInside t (Err d) = Unit {0}

module _ (t : CharTrie) (allowed : SlotCount (length t.keys)) where
  by_probe : (key : ℕ) (p : Result Probe Damaged) → probe_of t.keys key ≡ p → LeadsInside t (step_by_probe p)
  unfolding Inside
  by_probe key (Ok (Found i)) e = (found_has_key t.keys key i allowed e).0
  by_probe key (Ok (Empty i)) e = tt
  by_probe key (Err d) e = tt

  by_entry : (ch : ℕ) (empty : Bool) → ch < length t.root_children → LeadsInside t (cond empty (Ok None) (Ok (Some (RootEntry ch))))
  unfolding Inside
  by_entry ch true below = tt
  by_entry ch false below = below

  by_root : (p : ParentRef) (ch : ℕ) (root : Bool) → from_root t p ch ≡ root → LeadsInside t (elim root [ true ↦ root_step t ch | false ↦ slot_step t p ch ])
  by_root p ch true e = by_entry ch (eqb (get_or t.root_children ch 0) 0) (only_first t p ch e).1
  by_root p ch false e = by_probe (key_of (node_at t p) ch) (probe_of t.keys (key_of (node_at t p) ch)) refl

  open_inside : (p : ParentRef) (ch : ℕ) → LeadsInside t (open_step t p ch)
  unfolding open_step
  open_inside p ch = by_root p ch (from_root t p ch) refl

  by_bits : (p : ParentRef) (ch : ℕ) (bits : Bool) → LeadsInside t (elim bits [ true ↦ open_step t p ch | false ↦ Ok None ])
  by_bits p ch true = open_inside p ch
  by_bits p ch false = tt

  tested_inside : (p : ParentRef) (ch : ℕ) → LeadsInside t (tested_step t p ch)
  unfolding tested_step
  tested_inside p ch = by_bits p ch (bits_at t p ch)

  onward : (cs : List ℕ) (rest : (q : ParentRef) → LeadsInside t (Ok (Some q)) → LeadsInside t (walk t q cs)) (step : Step) → LeadsInside t step
      → LeadsInside t (elim step [ Ok (Some q) ↦ walk t q cs | Ok None ↦ Ok None | Err d ↦ Err d ])
  onward cs rest (Ok (Some q)) there = rest q there
  onward cs rest (Ok None) there = tt
  onward cs rest (Err d) there = tt

  walk_inside : (cs : List ℕ) (p : ParentRef) → LeadsInside t (Ok (Some p)) → LeadsInside t (walk t p cs)
  unfolding walk
  walk_inside [] p inside = inside
  walk_inside (c ∷ cs) p inside = onward cs (walk_inside cs) (tested_step t p c) (tested_inside p c)

pub open_steps_inside : OpenStepsInside
open_steps_inside t p q ch allowed e = subst (LeadsInside t) e (open_inside t allowed p ch)

pub tested_steps_inside : TestedStepsInside
tested_steps_inside t p q ch allowed e = subst (LeadsInside t) e (tested_inside t allowed p ch)

pub walks_inside : WalksInside
unfolding Inside
walks_inside t q cs allowed e = subst (LeadsInside t) e (walk_inside t allowed cs Root tt)

-- ---- the tables as they are lent

-- a root entry and a slot, of as many as the numbers that are lent are
module _ (roots slots : List ℕ) (shift : ℕ) (table : SlotTable (length slots) shift) where
  pub counted : SlotCount (length (keys_of slots))
  counted = rw (keys_whole slots table.whole) table.slot_count

  pub inside_lent : (q : ParentRef) → Inside (length (children_of roots)) (length (keys_of slots)) q → Inside (length roots) (length slots / 2) q
  inside_lent q inside = rw (length_children roots, keys_whole slots table.whole) at inside

  -- where a step that the code has taken leads
  module _ (p q : ParentRef) (ch : ℕ) (r : Step) (at : r ≡ Ok (Some q)) where
    pub leads_tested : r ≡ tested_step (trie_of roots slots) p ch → Inside (length roots) (length slots / 2) q
    leads_tested step = inside_lent q (tested_steps_inside (trie_of roots slots) p q ch counted (sym step ∙ at))

    pub leads_open : r ≡ open_step (trie_of roots slots) p ch → Inside (length roots) (length slots / 2) q
    leads_open step = inside_lent q (open_steps_inside (trie_of roots slots) p q ch counted (sym step ∙ at))

  -- and a walk from the root
  pub leads_walk : (q : ParentRef) (cs : List ℕ) → walk (trie_of roots slots) Root cs ≡ Ok (Some q) → Inside (length roots) (length slots / 2) q
  leads_walk q cs e = inside_lent q (walks_inside (trie_of roots slots) q cs counted e)

pub starts_inside : (roots slots : ℕ) → Inside roots slots Root
unfolding Inside
starts_inside roots slots = tt

-- ---- what the code reads at a place

module _ (roots numbers i : ℕ) (place : ParentRef) (inside : Inside roots (numbers / 2) place) where
  pub entry_inside : place ≡ RootEntry i → i < roots
  unfolding Inside
  entry_inside e = rw e at inside

  pub slot_inside : place ≡ Slot i → i < numbers / 2
  unfolding Inside
  slot_inside e = rw e at inside

  -- also in a table that is as long
  pub slot_still : (after : ℕ) → after ≡ numbers → place ≡ Slot i → i < after / 2
  slot_still after same e = rw same (slot_inside e)

-- lengths that are the same keep a place inside
pub inside_same : (roots slots roots' slots' : ℕ) (p : ParentRef) → roots' ≡ roots → slots' ≡ slots → Inside roots (slots / 2) p → Inside roots' (slots' / 2) p
inside_same roots slots roots' slots' p e s inside = rw (e, s) inside

-- ---- the node at a place, and whether a step from it uses the root table, as the code finds them

module _ (roots slots : List ℕ) (place : ParentRef) where
  abbrev tables : CharTrie
  tables = trie_of roots slots

  pub node_root : place ≡ Root → 0 ≡ node_at tables place
  unfolding node_at
  node_root e = rw e

  pub node_entry : (i child : ℕ) → place ≡ RootEntry i → child ≡ child_of (get_or roots i 0) → child % 2 ^ 24 ≡ node_at tables place
  unfolding node_at
  node_entry i child e read = rw (e, child_at roots i, read)

  pub node_slot : (i link child : ℕ) → place ≡ Slot i → link ≡ get_or (links_of slots) i 0 → child ≡ child_of link → child % 2 ^ 24 ≡ node_at tables place
  unfolding node_at
  node_slot i link child e read half = rw (e, child_at (links_of slots) i, ← read, half)

  module _ (ch : ℕ) where
    pub root_tested : place ≡ Root → ltb ch (length roots) ≡ from_root tables place ch
    unfolding from_root
    root_tested e = rw (e, length_children roots)

    pub entry_not_root : (i : ℕ) → place ≡ RootEntry i → false ≡ from_root tables place ch
    unfolding from_root
    entry_not_root i e = rw e

    pub slot_not_root : (i : ℕ) → place ≡ Slot i → false ≡ from_root tables place ch
    unfolding from_root
    slot_not_root i e = rw e

-- the entry of a first character lies inside, and a node has 24 bits
pub has_entry : (roots : List ℕ) (ch : ℕ) (p : ParentRef) (b : Bool)
    → ((slots : List ℕ) → b ≡ from_root (trie_of roots slots) p ch) → b ≡ true → ch < length roots
has_entry roots ch p b tested e = rw (length_children roots) at (only_first (trie_of roots []) p ch (sym (tested []) ∙ e)).1

module _ (t : CharTrie) where
  node_of : (p : ParentRef) → node_at t p < 2 ^ 24
  unfolding node_at
  node_of Root = omega arith
  node_of (RootEntry i) = omega arith
  node_of (Slot i) = omega arith

  pub node_below : (p : ParentRef) (node : ℕ) → node ≡ node_at t p → node < 2 ^ 24
  node_below p node is = rw is (node_of p)

-- ---- the root's step as the code takes it

module _ (roots keys : List ℕ) (ch : ℕ) where
  module _ (below : ch < length roots) (child : ℕ) (read : child ≡ child_of (get_or roots ch 0)) where
    pub root_empty : child ≡ 0 → Ok None ≡ first_step (children_of roots) keys ch
    unfolding first_step
    root_empty empty = rw (length_children roots, lt-ltb _ _ below, child_at roots ch, ← read, eq-eqb _ _ empty)

    pub root_taken : (child ≡ 0 → ⊥) → Ok (Some (RootEntry ch)) ≡ first_step (children_of roots) keys ch
    unfolding first_step
    root_taken taken = rw (length_children roots, lt-ltb _ _ below, child_at roots ch, ← read, ne_eqb _ _ taken)

  pub root_slot : (r : Step) → length roots ≤ ch → r ≡ step_by_probe (probe_of keys (key_of 0 ch)) → r ≡ first_step (children_of roots) keys ch
  unfolding first_step
  root_slot r beyond e = rw (length_children roots, le-ltb _ _ beyond) e

-- ---- a step and a word number as the code works them out from a place

module _ (roots slots : List ℕ) (place : ParentRef) (ch : ℕ) (r : Step) where
  abbrev t : CharTrie
  t = trie_of roots slots

  pub tested_at_root : place ≡ Root → r ≡ first_step (children_of roots) (keys_of slots) ch → r ≡ tested_step t place ch
  tested_at_root e step = rw e (step ∙ sym (first_step_is_tested t ch))

  module _ (i child : ℕ) where
    pub tested_at_entry : place ≡ RootEntry i → child ≡ child_of (get_or roots i 0) → r ≡ step_from (keys_of slots) all_ones child ch → r ≡ tested_step t place ch
    tested_at_entry e read step = rw e (rw (read, ← child_at roots i) at step ∙ sym (steps_from_root_entry t i ch))

    pub tested_at_slot : (filter link : ℕ) → place ≡ Slot i → filter ≡ get_or (keys_of slots) i 0 → link ≡ get_or (links_of slots) i 0 → child ≡ child_of link
        → r ≡ step_from (keys_of slots) filter child ch → r ≡ tested_step t place ch
    tested_at_slot filter link e key read half step =
        rw e (rw (half, read, ← child_at (links_of slots) i, key) at step ∙ sym (steps_from_slot t i ch))

  module _ (b : Bool) (tested : b ≡ from_root t place ch) where
    pub open_at_root : b ≡ true → r ≡ first_step (children_of roots) (keys_of slots) ch → r ≡ open_step t place ch
    open_at_root root step = rw (only_first t place ch (sym tested ∙ root)).0 (step ∙ sym (first_step_is_open t ch))

    pub open_at_node : (node : ℕ) → b ≡ false → node ≡ node_at t place → r ≡ step_by_probe (probe_of (keys_of slots) (key_of node ch)) → r ≡ open_step t place ch
    unfolding open_step
    open_at_node node root is step = rw (← tested, root, open_step, ← is) step

module _ (roots slots : List ℕ) (used : ℕ) (place : ParentRef) where
  abbrev t' : CharTrie
  t' = trie_of roots slots

  pub word_at_root : place ≡ Root → Ok None ≡ word_at used t' place
  unfolding word_at
  word_at_root e = rw e

  pub word_at_entry : (i : ℕ) (r : WordNumber) → place ≡ RootEntry i → r ≡ word_number used (word_of (get_or roots i 0)) → r ≡ word_at used t' place
  unfolding word_at
  word_at_entry i r e number = rw (e, word_at_lem roots i) number

  pub word_at_slot : (i link : ℕ) (r : WordNumber) → place ≡ Slot i → link ≡ get_or (links_of slots) i 0 → r ≡ word_number used (word_of link)
      → r ≡ word_at used t' place
  unfolding word_at
  word_at_slot i link r e read number = rw (e, word_at_lem (links_of slots) i, ← read) number
