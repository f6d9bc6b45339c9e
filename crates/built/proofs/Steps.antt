-- Steps by their cases: where a step leads, and where it stops; no step is damage where a slot is empty. Then what the invariant says of nodes: a
-- known node's place is in use and holds the node's number, so no two nodes have one place; nor have two one name, since a name tells the steps
-- that lead to its node; and there are too few nodes for a number to pass 24 bits.
-- Assumes nothing.
use mathlib.Core.Path.{◌≡◌, refl, sym, ap, ◌∙◌, subst}
use mathlib.Core.Bool.{Bool, true, false, cond}
use mathlib.Core.Logic.{◌≢◌, ◌⊎◌, inl, inr}
use mathlib.Core.List.{List, [], ◌∷◌, reverse, reverse-reverse}
use mathlib.Core.Option.{Option, none, some}
use Prim.Native.Nat.{ℕ, zero, suc, ◌+◌, ◌^◌, ◌<◌, ◌≤◌}
use native.Mathlib.Omega.{arith}
use borrow.Author.Tests.{ne_eqb, eqb-true, eqb-false, ltb-true}
use lib.Dec.{eqb}
use lib.ListN.{length, get_or}
use Rattle.trie.specs.declared.Damaged.{Damaged}
use Rattle.std.specs.Prelude.{Ok, Err, Some, None, Result}
use Rattle.trie.specs.declared.ParentRef.{ParentRef}
use Rattle.trie.specs.declared.ParentRef.TheVariants.{Root, RootEntry, Slot}
use Rattle.trie.specs.declared.Probe.{Probe}
use Rattle.trie.specs.declared.Probe.TheVariants.{Found, Empty}
use Rattle.trie.specs.Trie.{CharTrie, key_of, probe_of, node_at, from_root, step_by_probe, open_step, Step, damage}
use Rattle.book.specs.Returns.{Book}
use Rattle.book.specs.Enter.{empty_slots}
use Rattle.built.specs.Ledger.{Entry, frequency_in}
use Rattle.built.specs.Built.{Sizes, Tree, Store, Words}
use Rattle.built.proofs.Keys.{Started, start_inside, slots_least, slots_most, empty_most, found_used, found_inside, probe_ends}

-- no key is 0
pub key_some : (parent ch : ℕ) → key_of parent ch ≢ 0
unfolding key_of
key_some parent ch e = omega arith

-- characters of a key: each below 2^21
abbrev pub Characters : List ℕ → Type 0
Characters [] = Unit {0}
Characters (c ∷ cs) = (c < 2 ^ 21) × Characters cs

-- ---- the cases of a step

module _ (t : CharTrie) (p : ParentRef) (c : ℕ) where
  -- a step that leads on, through the root table or a slot
  pub data Leads : ParentRef → Type 0 where
    by_root : from_root t p c ≡ true → get_or t.root_children c 0 ≢ 0 → Leads (RootEntry c)
    by_slot : {i : ℕ} → from_root t p c ≡ false → probe_of t.keys (key_of (node_at t p) c) ≡ Ok (Found i) → Leads (Slot i)

  -- a step that is absent
  pub data Stops : Type 0 where
    no_root : from_root t p c ≡ true → get_or t.root_children c 0 ≡ 0 → Stops
    no_slot : (j : ℕ) → from_root t p c ≡ false → probe_of t.keys (key_of (node_at t p) c) ≡ Ok (Empty j) → Stops

  -- the step by its tests
  pub step_tests : open_step t p c
      ≡ cond (from_root t p c) (cond (eqb (get_or t.root_children c 0) 0) (Ok None) (Ok (Some (RootEntry c)))) (step_by_probe (probe_of t.keys (key_of (node_at t p) c)))
  unfolding open_step
  step_tests = go (from_root t p c) (cond (eqb (get_or t.root_children c 0) 0) (Ok None) (Ok (Some (RootEntry c))))
      (step_by_probe (probe_of t.keys (key_of (node_at t p) c)))
    where
      go : (r : Bool) (x y : Step) → elim r [ true ↦ x | false ↦ y ] ≡ cond r x y
      go true x y = refl
      go false x y = refl

  pub leads_of : (q : ParentRef) → open_step t p c ≡ Ok (Some q) → Leads q
  leads_of q e = go (from_root t p c) (eqb (get_or t.root_children c 0) 0) (probe_of t.keys (key_of (node_at t p) c)) refl refl refl (sym step_tests ∙ e)
    where
      go : (r z : Bool) (s : Result Probe Damaged) → from_root t p c ≡ r → eqb (get_or t.root_children c 0) 0 ≡ z → probe_of t.keys (key_of (node_at t p) c) ≡ s
          → cond r (cond z (Ok None) (Ok (Some (RootEntry c)))) (step_by_probe s) ≡ Ok (Some q) → Leads q
      go true true s er ez es e = let z : ◌≡◌ {A = ℕ} 0 1 = cc in absurd (omega arith)
      go true false s er ez es e = let same : RootEntry c ≡ q = cc in subst Leads same (by_root er (eqb-false _ _ ez))
      go false z (Ok (Found i)) er ez es e = let same : Slot i ≡ q = cc in subst Leads same (by_slot er es)
      go false z (Ok (Empty i)) er ez es e = let z : ◌≡◌ {A = ℕ} 0 1 = cc in absurd (omega arith)
      go false z (Err d) er ez es e = let z : ◌≡◌ {A = ℕ} 0 1 = cc in absurd (omega arith)

  pub step_of : (q : ParentRef) → Leads q → open_step t p c ≡ Ok (Some q)
  step_of q (by_root e nz) = step_tests ∙ (rw (e, ne_eqb _ _ nz))
  step_of q (by_slot e f) = step_tests ∙ (rw (e, f))

  pub stops_of : open_step t p c ≡ Ok None → Stops
  stops_of e = go (from_root t p c) (eqb (get_or t.root_children c 0) 0) (probe_of t.keys (key_of (node_at t p) c)) refl refl refl (sym step_tests ∙ e)
    where
      go : (r z : Bool) (s : Result Probe Damaged) → from_root t p c ≡ r → eqb (get_or t.root_children c 0) 0 ≡ z → probe_of t.keys (key_of (node_at t p) c) ≡ s
          → cond r (cond z (Ok None) (Ok (Some (RootEntry c)))) (step_by_probe s) ≡ Ok None → Stops
      go true true s er ez es e = no_root er (eqb-true _ _ ez)
      go true false s er ez es e = let z : ◌≡◌ {A = ℕ} 0 1 = cc in absurd (omega arith)
      go false z (Ok (Found i)) er ez es e = let z : ◌≡◌ {A = ℕ} 0 1 = cc in absurd (omega arith)
      go false z (Ok (Empty i)) er ez es e = no_slot i er es
      go false z (Err d) er ez es e = let z : ◌≡◌ {A = ℕ} 0 1 = cc in absurd (omega arith)

  pub not_damaged : probe_of t.keys (key_of (node_at t p) c) ≢ Err damage → open_step t p c ≢ Err damage
  not_damaged ends e = go (from_root t p c) (eqb (get_or t.root_children c 0) 0) (probe_of t.keys (key_of (node_at t p) c)) ends (sym step_tests ∙ e)
    where
      go : (r z : Bool) (s : Result Probe Damaged) → s ≢ Err damage → cond r (cond z (Ok None) (Ok (Some (RootEntry c)))) (step_by_probe s) ≡ Err damage → ⊥
      go true true s ends e = let z : ◌≡◌ {A = ℕ} 0 1 = cc in omega arith
      go true false s ends e = let z : ◌≡◌ {A = ℕ} 0 1 = cc in omega arith
      go false z (Ok (Found i)) ends e = let z : ◌≡◌ {A = ℕ} 0 1 = cc in omega arith
      go false z (Ok (Empty i)) ends e = let z : ◌≡◌ {A = ℕ} 0 1 = cc in omega arith
      go false z (Err d) ends e = ends refl

  -- the root table is asked at the root only, for characters that it has
  pub from_root_inside : from_root t p c ≡ true → c < length t.root_children
  unfolding from_root
  from_root_inside e = go p e
    where
      go : (p : ParentRef) → from_root t p c ≡ true → c < length t.root_children
      go Root e = ltb-true _ _ e
      go (RootEntry i) e = let z : ◌≡◌ {A = ℕ} 0 1 = cc in absurd (omega arith)
      go (Slot i) e = let z : ◌≡◌ {A = ℕ} 0 1 = cc in absurd (omega arith)

  pub from_root_is_root : from_root t p c ≡ true → p ≡ Root
  unfolding from_root
  from_root_is_root e = go p e
    where
      go : (p : ParentRef) → from_root t p c ≡ true → p ≡ Root
      go Root e = refl
      go (RootEntry i) e = let z : ◌≡◌ {A = ℕ} 0 1 = cc in absurd (omega arith)
      go (Slot i) e = let z : ◌≡◌ {A = ℕ} 0 1 = cc in absurd (omega arith)

-- ---- places in use

abbrev pub InUse : CharTrie → ParentRef → Type 0
InUse t Root = Unit {0}
InUse t (RootEntry i) = (i < length t.root_children) × (get_or t.root_children i 0 ≢ 0)
InUse t (Slot i) = (i < length t.keys) × (get_or t.keys i 0 ≢ 0)

module _ {t : CharTrie} (sizes : Sizes t) where
  pub started : Started t.keys
  started = start_inside (length t.keys) sizes.slots

  pub led_in_use : (p : ParentRef) (c : ℕ) (q : ParentRef) → Leads t p c q → InUse t q
  led_in_use p c q (by_root e nz) = (from_root_inside t p c e, nz)
  led_in_use p c q (by_slot {i} e f) = (found_inside t.keys _ started i f, found_used t.keys _ (key_some (node_at t p) c) i f)

  module _ {next slots : ℕ} (store : Store t next slots) where
    pub empty_left : 0 < empty_slots t.keys
    empty_left = omega (arith, store.slot_count_lem, store.load, slots_least (length t.keys) sizes.slots)

    pub ends : (key : ℕ) → probe_of t.keys key ≢ Err damage
    ends key = probe_ends t.keys key started empty_left

    pub undamaged_step : (p : ParentRef) (c : ℕ) → open_step t p c ≢ Err damage
    undamaged_step p c = not_damaged t p c (ends (key_of (node_at t p) c))

    -- the new nodes of a word fit too: there are as many nodes as used slots and root entries, and the root
    pub next_fits : next ≤ 1 + slots + length t.root_children
    next_fits = omega (arith, store.node_count)

    pub next_small : next < 2 ^ 24
    next_small = omega (arith, next_fits, store.load, sizes.roots_most, slots_most (length t.keys) sizes.slots)

    pub next_some : 0 < next
    next_some = omega (arith, store.node_count, empty_most t.root_children)

-- ---- known nodes

pub zero_or_more : (n : ℕ) → (n ≡ 0) ⊎ (0 < n)
zero_or_more zero = inl refl
zero_or_more (suc n) = inr (omega arith)

module _ {t : CharTrie} {next : ℕ} {name : ℕ → List ℕ} {place : ℕ → ParentRef} (tree : Tree t next name place) where
  pub node_of_place : (n : ℕ) → n < next → node_at t (place n) ≡ n
  unfolding node_at
  node_of_place n h = go (zero_or_more n)
    where
      at_root : node_at t Root ≡ 0
      at_root = refl

      go : (n ≡ 0) ⊎ (0 < n) → node_at t (place n) ≡ n
      go (inl z) = ap (λ (k : ℕ). node_at t (place k)) z ∙ ap (node_at t) tree.root_place ∙ at_root ∙ sym z
      go (inr s) = (tree.child n s h).node

  -- so two nodes at one place are one node
  pub same_place : (m n : ℕ) → m < next → n < next → place m ≡ place n → m ≡ n
  same_place m n hm hn e = sym (node_of_place m hm) ∙ ap (node_at t) e ∙ node_of_place n hn

  pub place_in_use : Sizes t → (n : ℕ) → n < next → InUse t (place n)
  place_in_use sizes n h = go (zero_or_more n)
    where
      go : (n ≡ 0) ⊎ (0 < n) → InUse t (place n)
      go (inl z) = rw (z, tree.root_place) tt
      go (inr s) = let o = tree.child n s h in led_in_use sizes (place o.parent) o.character (place n) (leads_of t _ _ _ o.step)

  -- only the root's name is empty
  pub unnamed : (n : ℕ) → n < next → name n ≡ [] → n ≡ 0
  unnamed n h e = go (zero_or_more n)
    where
      go : (n ≡ 0) ⊎ (0 < n) → n ≡ 0
      go (inl z) = z
      go (inr s) = let o = tree.child n s h in let both_ways : [] ≡ o.character ∷ name o.parent = sym e ∙ o.named in let z : ◌≡◌ {A = ℕ} 0 1 =
          cc in absurd (omega arith)

  -- a node with a name is the child of the node whose name is the rest
  pub child_named : (n c : ℕ) (rest : List ℕ) → n < next → name n ≡ c ∷ rest
      → (parent : ℕ) × (parent < next) × (name parent ≡ rest) × (open_step t (place parent) c ≡ Ok (Some (place n)))
  child_named n c rest h e = go (zero_or_more n)
    where
      go : (n ≡ 0) ⊎ (0 < n) → (parent : ℕ) × (parent < next) × (name parent ≡ rest) × (open_step t (place parent) c ≡ Ok (Some (place n)))
      go (inl z) = let both_ways : c ∷ rest ≡ [] = sym e ∙ ap name z ∙ tree.root_name in let z : ◌≡◌ {A = ℕ} 0 1 = cc in absurd (omega arith)
      go (inr s) =
          let o = tree.child n s h in
          let both_ways : c ∷ rest ≡ o.character ∷ name o.parent = sym e ∙ o.named in
          let first : o.character ≡ c = cc in
          let others : name o.parent ≡ rest = cc in
          (o.parent, o.known, others, subst (λ (d : ℕ). open_step t (place o.parent) d ≡ Ok (Some (place n))) first o.step)

  -- so no two nodes have one name
  pub same_name : (r : List ℕ) (m n : ℕ) → m < next → n < next → name m ≡ r → name n ≡ r → m ≡ n
  same_name [] m n hm hn em en = unnamed m hm em ∙ sym (unnamed n hn en)
  same_name (c ∷ r) m n hm hn em en =
      let pm = child_named m c r hm em in
      let pn = child_named n c r hn en in
      let up : pm.0 ≡ pn.0 = same_name r pm.0 pn.0 pm.1 pn.1 pm.2 pn.2 in
      let led : open_step t (place pn.0) c ≡ Ok (Some (place m)) = subst (λ (k : ℕ). open_step t (place k) c ≡ Ok (Some (place m))) up pm.3 in
      let other : open_step t (place pn.0) c ≡ Ok (Some (place n)) = pn.3 in
      same_place m n hm hn (cc)

  -- where a known node's step is absent, no node has the name that it would lead to
  pub nameless : (n c : ℕ) → n < next → open_step t (place n) c ≡ Ok None → (m : ℕ) → m < next → name m ≢ c ∷ name n
  nameless n c h e m hm em =
      let up = child_named m c (name n) hm em in
      let same : up.0 ≡ n = same_name (name n) up.0 n up.1 h up.2 refl in
      let there : open_step t (place n) c ≡ Ok (Some (place m)) = subst (λ (k : ℕ). open_step t (place k) c ≡ Ok (Some (place m))) same up.3 in
      let z : ◌≡◌ {A = ℕ} 0 1 = cc in omega arith

  -- nor has any the same name with more characters
  pub nameless_longer : (c : ℕ) (r : List ℕ) → ((m : ℕ) → m < next → name m ≢ r) → (m : ℕ) → m < next → name m ≢ c ∷ r
  nameless_longer c r none_has m h e = let up = child_named m c r h e in none_has up.0 up.1 up.2

-- a name without a node is no word of the ledger
pub not_in_ledger : {b : Book} {ledger : List Entry} {t : CharTrie} {next : ℕ} {name : ℕ → List ℕ} {place : ℕ → ParentRef} → Words b ledger t next name place
    → (r : List ℕ) → ((m : ℕ) → m < next → name m ≢ r) → frequency_in ledger (reverse r) ≡ none
not_in_ledger {ledger = ledger} words r none_has = go (frequency_in ledger (reverse r)) refl
  where
    go : (f : Option ℕ) → frequency_in ledger (reverse r) ≡ f → f ≡ none
    go none e = refl
    go (some f) e = let its = words.entered (reverse r) f e in absurd (none_has its.node its.known (its.named ∙ reverse-reverse r))
