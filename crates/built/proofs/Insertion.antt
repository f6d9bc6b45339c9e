-- A word's insertion, up to its word number: its steps are laid, and the invariant holds with the same ledger.
-- An insertion goes along the steps that are there and sets bits (`FilterBits`), and from the first absent one on makes each step new (`NewSteps`). A new
-- place has no children, so each further step is absent too and its probe ends at an empty slot. `Laid` says what is left at the end: a trie with as many
-- nodes and slots more as the decision counted, and in it the place of the word, which `with_word` then gives its number.
-- Assumes nothing.
use mathlib.Core.Path.{◌≡◌, refl, sym, ap, ◌∙◌, subst}
use mathlib.Core.Bool.{Bool, true, false, cond}
use mathlib.Core.Logic.{◌≢◌}
use mathlib.Core.List.{List, [], ◌∷◌, reverse_aux}
use Prim.Native.Nat.{ℕ, suc, ◌+◌, ◌*◌, ◌^◌, ◌<◌, ◌≤◌}
use native.Mathlib.Omega.{arith}
use lib.IntN.{ℤ}
use lib.ListN.{length, get_or, length-set}
use Rattle.std.specs.Prelude.{Ok, Err, Some, None}
use Rattle.trie.specs.declared.ParentRef.{ParentRef}
use Rattle.trie.specs.declared.ParentRef.TheVariants.{RootEntry, Slot}
use Rattle.trie.specs.declared.Probe.TheVariants.{Empty}
use Rattle.trie.specs.Trie.{CharTrie, key_of, probe_of, empty_slot, node_at, from_root, open_step, bits_at, Reach, Reached, NoEnd, reach, new_slots, with_bits, Step, damage}
use Rattle.trie.specs.Trie.{with_word, new_root_entry, new_slot, extend, insert}
use Rattle.book.specs.Returns.{Book}
use Rattle.built.specs.Ledger.{Entry}
use Rattle.built.specs.Built.{Tables, update_at}
use Rattle.built.proofs.Keys.{empty_first}
use Rattle.built.proofs.Steps.{Characters, Stops, no_root, no_slot, stops_of, from_root_is_root, InUse, undamaged_step, node_of_place, place_in_use}
use Rattle.built.proofs.FilterBits.{BitsSet, bits_set, bits_tables}
use Rattle.built.proofs.Growth.{update_same}
use Rattle.built.proofs.NewSteps.{slot_tables, slot_is_leaf, entry_tables, entry_is_leaf}

-- ---- what is left

-- the invariant holds, and a place is that of the node with this name
pub record Standing (b : Book) (ledger : List Entry) (t : CharTrie) (next slots : ℕ) (p : ParentRef) (r : List ℕ) : Type 0 where
  pub name : ℕ → List ℕ
  pub place : ℕ → ParentRef
  pub tables : Tables b ledger t next slots name place
  pub node : ℕ
  pub known : node < next
  pub placed : place node ≡ p
  pub named : name node ≡ r

-- the steps of a word are laid: all that `written` does more is to give a place its word number
pub record Laid (b : Book) (ledger : List Entry) (next slots : ℕ) (r : List ℕ) (written : ℤ → CharTrie) : Type 0 where
  pub trie : CharTrie
  pub place : ParentRef
  pub standing : Standing b ledger trie next slots place r
  pub numbered : (number : ℤ) → written number ≡ with_word trie place number

-- the same for other counts that are equal, and another writing that gives the same
relaid : {b : Book} {ledger : List Entry} {next next' slots slots' : ℕ} {r : List ℕ} {written written' : ℤ → CharTrie} → Laid b ledger next slots r written
    → next ≡ next' → slots ≡ slots' → ((number : ℤ) → written' number ≡ written number) → Laid b ledger next' slots' r written'
relaid {b} {ledger} {next} {slots' = slots'} {r = r} l nodes taken same = record {
  trie = l.trie;
  place = l.place;
  standing =
      subst (λ (k : ℕ). Standing b ledger l.trie k slots' l.place r) nodes
      (subst (λ (k : ℕ). Standing b ledger l.trie next k l.place r) taken l.standing);
  numbered = λ number. same number ∙ l.numbered number;
}

-- no step laid
laid_nothing : {b : Book} {ledger : List Entry} {t : CharTrie} {next slots : ℕ} {p : ParentRef} {r : List ℕ}
    → Standing b ledger t next slots p r → Laid b ledger (next + 0) (slots + 0) r (with_word t p)
laid_nothing {b} {ledger} {t} {next} {slots} {p} {r} s = relaid at_once (omega arith) (omega arith) (λ number. refl)
  where
    at_once : Laid b ledger next slots r (with_word t p)
    at_once = record { trie = t; place = p; standing = s; numbered = λ number. refl }

-- one new step is made, with so many slots used after it, and the rest of the word is to follow from its place
record Stepped (b : Book) (ledger : List Entry) (t : CharTrie) (next slots : ℕ) (p : ParentRef) (c : ℕ) (r : List ℕ) : Type 0 where
  trie : CharTrie
  place : ParentRef
  standing : Standing b ledger trie (next + 1) slots place (c ∷ r)
  leaf : (d : ℕ) (q : ParentRef) → d < 2 ^ 21 → open_step trie place d ≢ Ok (Some q)
  below : (d : ℕ) → from_root trie place d ≡ false
  slots_same : length trie.keys ≡ length t.keys
  continued : (cs : List ℕ) (number : ℤ) → extend t p (c ∷ cs) next number ≡ extend trie place cs (next + 1) number

-- the slots used after a new step: a root entry takes none
abbrev taken : Bool → ℕ → ℕ
taken root slots = cond root slots (slots + 1)

-- ---- one step of `extend`

extend_entry : (t : CharTrie) (p : ParentRef) (c : ℕ) (cs : List ℕ) (node : ℕ) (number : ℤ) → from_root t p c ≡ true
    → extend t p (c ∷ cs) node number ≡ extend (new_root_entry t c node) (RootEntry c) cs (node + 1) number
unfolding extend
extend_entry t p c cs node number e = rw (e, extend)

extend_slot : (t : CharTrie) (p : ParentRef) (c : ℕ) (cs : List ℕ) (node : ℕ) (number : ℤ) (j key : ℕ)
    → key_of (node_at t p) c ≡ key → from_root t p c ≡ false → empty_slot t.keys key ≡ Ok j
    → extend t p (c ∷ cs) node number ≡ extend (new_slot (with_bits t p c) j key node) (Slot j) cs (node + 1) number
unfolding extend
extend_slot t p c cs node number j key k e f = rw (e, extend, k, f, extend, k)

module _ {b : Book} {ledger : List Entry} {t : CharTrie} {next slots : ℕ} {name : ℕ → List ℕ} {place : ℕ → ParentRef}
    (tables : Tables b ledger t next slots name place)
    (n c : ℕ) (known : n < next) (within : c < 2 ^ 21) where
  filled : InUse t (place n)
  filled = place_in_use tables.tree tables.sizes n known

  marked : BitsSet t (with_bits t (place n) c) (place n) c
  marked = bits_set c tables.sizes (place n) filled

  marked_tables : Tables b ledger (with_bits t (place n) c) next slots name place
  marked_tables = bits_tables (place n) c filled tables

  -- the new node, at a place of a trie
  new_node : (t' : CharTrie) (slots' : ℕ) (q : ParentRef) → Tables b ledger t' (next + 1) slots' (update_at name next (c ∷ name n)) (update_at place next q)
      → Standing b ledger t' (next + 1) slots' q (c ∷ name n)
  new_node t' slots' q its_tables = record {
    name = update_at name next (c ∷ name n);
    place = update_at place next q;
    tables = its_tables;
    node = next;
    known = omega arith;
    placed = update_same place next q;
    named = update_same name next (c ∷ name n);
  }

  -- in the root table, whose steps start at the root and need no bits
  new_entry : open_step t (place n) c ≡ Ok None → from_root t (place n) c ≡ true → get_or t.root_children c 0 ≡ 0
      → Stepped b ledger t next slots (place n) c (name n)
  unfolding bits_at from_root
  new_entry absent on free =
      let bits : bits_at t (place n) c ≡ true = rw (from_root_is_root t (place n) c on) in
      record {
        trie = new_root_entry t c next;
        place = RootEntry c;
        standing = new_node (new_root_entry t c next) slots (RootEntry c) (entry_tables tables n c known within absent bits on free);
        leaf = entry_is_leaf tables n c known within absent bits on free;
        below = λ d. refl;
        slots_same = refl;
        continued = λ cs number. extend_entry t (place n) c cs next number on;
      }

  -- among the slots: the bits change neither the step nor its probe
  new_slot_lem : open_step t (place n) c ≡ Ok None → from_root t (place n) c ≡ false → (j : ℕ) → probe_of t.keys (key_of n c) ≡ Ok (Empty j)
      → (slots + 1) * 8 ≤ length t.keys * 6
      → Stepped b ledger t next (slots + 1) (place n) c (name n)
  unfolding from_root
  new_slot_lem absent off j met room =
      let t' = with_bits t (place n) c in
      let m = marked in
      let absent' : open_step t' (place n) c ≡ Ok None = m.alike.step_same (place n) c ∙ absent in
      let off' : from_root t' (place n) c ≡ false = m.from_root_same (place n) c ∙ off in
      let met' : probe_of t'.keys (key_of n c) ≡ Ok (Empty j) = m.probe_same (key_of n c) ∙ met in
      let room' : (slots + 1) * 8 ≤ length t'.keys * 6 = subst (λ (k : ℕ). (slots + 1) * 8 ≤ k * 6) (sym m.slots_same) room in
      let its_key : key_of (node_at t (place n)) c ≡ key_of n c = ap (λ (k : ℕ). key_of k c) (node_of_place tables.tree n known) in
      record {
        trie = new_slot t' j (key_of n c) next;
        place = Slot j;
        standing = new_node (new_slot t' j (key_of n c) next) (slots + 1) (Slot j)
            (slot_tables marked_tables n c known within absent' m.bits_there off' j met' room');
        leaf = slot_is_leaf marked_tables n c known within absent' m.bits_there off' j met';
        below = λ d. refl;
        slots_same = length-set t'.keys j (key_of n c) ∙ m.slots_same;
        continued = λ cs number. extend_slot t (place n) c cs next number j (key_of n c) its_key off (empty_first t.keys (key_of n c) j met);
      }

  new_step_lem : open_step t (place n) c ≡ Ok None → taken (from_root t (place n) c) slots * 8 ≤ length t.keys * 6
      → Stepped b ledger t next (taken (from_root t (place n) c) slots) (place n) c (name n)
  new_step_lem absent room = go (stops_of t (place n) c absent)
    where
      go : Stops t (place n) c → Stepped b ledger t next (taken (from_root t (place n) c) slots) (place n) c (name n)
      go (no_root on free) = rw on (new_entry absent on free)
      go (no_slot j off met) =
          let its_probe : probe_of t.keys (key_of n c) ≡ Ok (Empty j) =
          subst (λ (k : ℕ). probe_of t.keys (key_of k c) ≡ Ok (Empty j)) (node_of_place tables.tree n known) met in
          rw off (new_slot_lem absent off j its_probe (rw off at room))

  -- a step that is there
  old_step : (q : ParentRef) → open_step t (place n) c ≡ Ok (Some q) → Standing b ledger (with_bits t (place n) c) next slots q (c ∷ name n)
  old_step q there =
      let led = tables.tree.led n c q known within there in
      record { name = name; place = place; tables = marked_tables; node = led.node; known = led.known; placed = sym led.placed; named = led.named }

-- ---- the same from a place and a name

module _ {b : Book} {ledger : List Entry} {t : CharTrie} {next slots : ℕ} {p : ParentRef} {r : List ℕ} (s : Standing b ledger t next slots p r)
    (c : ℕ) (within : c < 2 ^ 21) where
  bits_at_lem : BitsSet t (with_bits t p c) p c
  bits_at_lem = subst (λ (q : ParentRef). BitsSet t (with_bits t q c) q c) s.placed (marked s.tables s.node c s.known within)

  abbrev NewStep : ParentRef → List ℕ → Type 0
  NewStep q m = open_step t q c ≡ Ok None → taken (from_root t q c) slots * 8 ≤ length t.keys * 6
      → Stepped b ledger t next (taken (from_root t q c) slots) q c m

  new_from : NewStep p r
  new_from = subst (λ (q : ParentRef). NewStep q r) s.placed
      (subst (NewStep (s.place s.node)) s.named (new_step_lem s.tables s.node c s.known within))

  abbrev OldStep : ParentRef → List ℕ → Type 0
  OldStep q m = (x : ParentRef) → open_step t q c ≡ Ok (Some x) → Standing b ledger (with_bits t q c) next slots x (c ∷ m)

  old_from : OldStep p r
  old_from = subst (λ (q : ParentRef). OldStep q r) s.placed
      (subst (OldStep (s.place s.node)) s.named (old_step s.tables s.node c s.known within))

-- ---- every step new

-- a step that leads nowhere and is no damage is absent
absent_by : (s : Step) → ((q : ParentRef) → s ≢ Ok (Some q)) → s ≢ Err damage → s ≡ Ok None
absent_by (Ok (Some q)) n d = absurd (n q refl)
absent_by (Ok None) n d = refl
absent_by (Err e) n d = absurd (d refl)

-- more steps after a first one
laid_on : {b : Book} {ledger : List Entry} {t : CharTrie} {next slots slots' : ℕ} {p : ParentRef} {c : ℕ} {r : List ℕ}
    (s : Stepped b ledger t next slots p c r) (cs : List ℕ)
    → Laid b ledger (next + 1 + length cs) (slots + length cs) (reverse_aux cs (c ∷ r)) (extend s.trie s.place cs (next + 1))
    → slots + length cs ≡ slots' → Laid b ledger (next + suc (length cs)) slots' (reverse_aux cs (c ∷ r)) (extend t p (c ∷ cs) next)
laid_on s cs l count = relaid l (omega arith) count (s.continued cs)

extend_leaf : {b : Book} {ledger : List Entry} (cs : List ℕ) {t : CharTrie} {next slots : ℕ} {p : ParentRef} {r : List ℕ} → Standing b ledger t next slots p r
    → ((d : ℕ) (q : ParentRef) → d < 2 ^ 21 → open_step t p d ≢ Ok (Some q)) → ((d : ℕ) → from_root t p d ≡ false) → Characters cs
    → (slots + length cs) * 8 ≤ length t.keys * 6
    → Laid b ledger (next + length cs) (slots + length cs) (reverse_aux cs r) (extend t p cs next)
unfolding extend
extend_leaf [] s leaf below w room = laid_nothing s
extend_leaf {b} {ledger} (c ∷ cs) {t} {next} {slots} {p} {r} s leaf below w room =
    let absent : open_step t p c ≡ Ok None = absent_by _ (λ q. leaf c q w.0) (undamaged_step s.tables.sizes s.tables.store p c) in
    let one : taken (from_root t p c) slots ≡ slots + 1 = rw (below c) in
    let stepped : Stepped b ledger t next (slots + 1) p c r =
    subst (λ (k : ℕ). Stepped b ledger t next k p c r) one (new_from s c w.0 absent (rw one (omega arith))) in
    let long = stepped.slots_same in
    laid_on stepped cs (extend_leaf cs stepped.standing stepped.leaf stepped.below w.1 (omega arith)) (omega arith)

-- from the first absent step on
extend_absent : {b : Book} {ledger : List Entry} (c : ℕ) (cs : List ℕ) {t : CharTrie} {next slots : ℕ} {p : ParentRef} {r : List ℕ}
    → Standing b ledger t next slots p r
    → open_step t p c ≡ Ok None → Characters (c ∷ cs) → (taken (from_root t p c) slots + length cs) * 8 ≤ length t.keys * 6
    → Laid b ledger (next + suc (length cs)) (taken (from_root t p c) slots + length cs) (reverse_aux cs (c ∷ r)) (extend t p (c ∷ cs) next)
extend_absent c cs s absent w room =
    let stepped = new_from s c w.0 absent (omega arith) in
    let long = stepped.slots_same in
    laid_on stepped cs (extend_leaf cs stepped.standing stepped.leaf stepped.below w.1 (omega arith)) refl

-- ---- the whole word

-- how far a word's steps are there, by its first step
abbrev reach_by : CharTrie → ParentRef → ℕ → List ℕ → Step → Reach
reach_by t p c cs (Ok (Some q)) = reach t q cs
reach_by t p c cs (Ok None) = Reached p (c ∷ cs)
reach_by t p c cs (Err d) = NoEnd

reach_step : (t : CharTrie) (p : ParentRef) (c : ℕ) (cs : List ℕ) → reach t p (c ∷ cs) ≡ reach_by t p c cs (open_step t p c)
unfolding reach
reach_step t p c cs = go (open_step t p c)
  where
    go : (s : Step) → ◌≡◌ {A = Reach} (elim s [ Ok (Some q) ↦ reach t q cs | Ok None ↦ Reached p (c ∷ cs) | Err d ↦ NoEnd ]) (reach_by t p c cs s)
    go (Ok (Some q)) = refl
    go (Ok None) = refl
    go (Err d) = refl

-- bits change neither how far a word's steps are there nor what the rest of it takes
module _ {t t' : CharTrie} {p : ParentRef} {c : ℕ} (m : BitsSet t t' p c) where
  bits_reach : (cs : List ℕ) (q : ParentRef) → reach t' q cs ≡ reach t q cs
  unfolding reach
  bits_reach [] q = refl
  bits_reach (d ∷ ds) q = reach_step t' q d ds ∙ ap (reach_by t' q d ds) (m.alike.step_same q d) ∙ go (open_step t q d) (bits_reach ds)
      ∙ sym (reach_step t q d ds)
    where
      go : (s : Step) → ((q : ParentRef) → reach t' q ds ≡ reach t q ds) → reach_by t' q d ds s ≡ reach_by t q d ds s
      go (Ok (Some x)) rest = rest x
      go (Ok None) rest = refl
      go (Err d) rest = refl

  bits_slots : (q : ParentRef) (rest : List ℕ) → new_slots t' q rest ≡ new_slots t q rest
  unfolding new_slots
  bits_slots q [] = refl
  bits_slots q (d ∷ ds) = rw (m.from_root_same q d)

-- the slots of the first absent step and of those after it
slots_of : (t : CharTrie) (p : ParentRef) (c : ℕ) (cs : List ℕ) (slots : ℕ) → taken (from_root t p c) slots + length cs ≡ slots + new_slots t p (c ∷ cs)
unfolding new_slots
slots_of t p c cs slots = go (from_root t p c)
  where
    go : (root : Bool) → taken root slots + length cs ≡ slots + cond root (length cs) (suc (length cs))
    go true = omega arith
    go false = omega arith

module _ (b : Book) (ledger : List Entry) (next slots : ℕ) where
  -- the word's characters from a place on, whose steps are there as far as a place
  abbrev pub LaidFrom : CharTrie → ParentRef → List ℕ → List ℕ → ParentRef → List ℕ → Type 0
  LaidFrom t p r cs q rest = Laid b ledger (next + length rest) (slots + new_slots t q rest) (reverse_aux cs r) (insert t p cs next)

  abbrev pub Room : CharTrie → ParentRef → List ℕ → Type 0
  Room t q rest = (slots + new_slots t q rest) * 8 ≤ length t.keys * 6

  insert_absent : (c : ℕ) (cs : List ℕ) {t : CharTrie} {p : ParentRef} {r : List ℕ} → Standing b ledger t next slots p r → Characters (c ∷ cs)
      → open_step t p c ≡ Ok None
      → Room t p (c ∷ cs) → LaidFrom t p r (c ∷ cs) p (c ∷ cs)
  unfolding insert
  insert_absent c cs {t} {p} s w absent room =
      let count = slots_of t p c cs slots in
      relaid (extend_absent c cs s absent w (omega arith)) refl count (λ number. rw (absent, insert))

  insert_step : (c : ℕ) (cs : List ℕ) {t : CharTrie} {p : ParentRef} {r : List ℕ} → Standing b ledger t next slots p r → Characters (c ∷ cs)
      → (q : ParentRef) (rest : List ℕ) → Room t q rest
      → ((x : ParentRef) → Standing b ledger (with_bits t p c) next slots x (c ∷ r) → reach (with_bits t p c) x cs ≡ Reached q rest → Room (with_bits t p c) q rest
      → LaidFrom (with_bits t p c) x (c ∷ r) cs q rest)
      → (s : Step) → open_step t p c ≡ s → reach_by t p c cs s ≡ Reached q rest → LaidFrom t p r (c ∷ cs) q rest
  unfolding insert
  insert_step c cs {t} {p} s w q rest room others (Ok (Some x)) there far =
      let m = bits_at_lem s c w.0 in
      let same = bits_slots m q rest in
      let long = m.slots_same in
      relaid (others x (old_from s c w.0 x there) (bits_reach m cs x ∙ far) (omega arith)) refl (omega arith) (λ number. rw (there, insert))
  insert_step c cs {t} {p} {r} s w q rest room others (Ok None) absent far =
      let place : p ≡ q = cc in
      let left : c ∷ cs ≡ rest = cc in
      subst (λ (y : ParentRef). Room t y rest → LaidFrom t p r (c ∷ cs) y rest) place
      (subst (λ (ds : List ℕ). Room t p ds → LaidFrom t p r (c ∷ cs) p ds) left (insert_absent c cs s w absent)) room
  insert_step c cs {t} {p} s w q rest room others (Err d) e far = absurd (undamaged_step s.tables.sizes s.tables.store p c e)

  pub insert_lays : (cs : List ℕ) {t : CharTrie} {p : ParentRef} {r : List ℕ} → Standing b ledger t next slots p r → Characters cs
      → (q : ParentRef) (rest : List ℕ)
      → reach t p cs ≡ Reached q rest → Room t q rest → LaidFrom t p r cs q rest
  unfolding reach insert new_slots
  insert_lays [] {t} {p} {r} s w q rest far room = let left : [] ≡ rest = cc in subst (λ (ds : List ℕ). LaidFrom t p r [] q ds) left (laid_nothing s)
  insert_lays (c ∷ cs) {t} {p} {r} s w q rest far room =
      insert_step c cs s w q rest room (λ x s' far' room'. insert_lays cs s' w.1 q rest far' room') (open_step t p c) refl (sym (reach_step t p c cs) ∙ far)
