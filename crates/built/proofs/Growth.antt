-- A new step: the tree with one node more keeps the invariant, for the same ledger.
-- `Grown` says what a new root entry and a new slot have in common: every step, node and word number of a known node is as it was, the one step that
-- was absent leads to the new place, and no step leads on from there, since no key has a parent that is still to come. The new node's name is then the
-- name of no other, so its word is not in the ledger, and its word number -1 is right.
-- Assumes nothing.
use mathlib.Core.Path.{◌≡◌, refl, sym, ap, ◌∙◌}
use mathlib.Core.Bool.{Bool, true, false}
use mathlib.Core.Logic.{◌≢◌, ◌⊎◌, inl, inr}
use mathlib.Core.List.{List, ◌∷◌, reverse}
use mathlib.Core.Option.{none}
use Prim.Native.Nat.{ℕ, ◌+◌, ◌^◌, ◌<◌}
use native.Mathlib.Omega.{arith}
use borrow.Author.Tests.{eq-eqb, ne_eqb, eqb-true, eqb-false}
use lib.Dec.{eqb}
use Rattle.std.specs.Prelude.{Ok, Some, None}
use Rattle.trie.specs.declared.ParentRef.{ParentRef}
use Rattle.trie.specs.Trie.{CharTrie, node_at, open_step, bits_at, word_at, WordNumber}
use Rattle.book.specs.Returns.{Book}
use Rattle.built.specs.Ledger.{Entry, frequency_in}
use Rattle.built.specs.Built.{Child, LedTo, Tree, Agrees, not_entered, NodeOf, Words, update_at}
use Rattle.built.proofs.Steps.{nameless, not_in_ledger}

-- ---- a value more

pub update_same : {A : Type 0} (f : ℕ → A) (n : ℕ) (value : A) → update_at f n value n ≡ value
unfolding update_at
update_same f n value = rw (eq-eqb n n refl)

pub update_below : {A : Type 0} (f : ℕ → A) (n : ℕ) (value : A) (m : ℕ) → m < n → update_at f n value m ≡ f m
unfolding update_at
update_below f n value m h = let ne : m ≢ n = λ q. omega arith in rw (ne_eqb m n ne)

-- a number below one more is below, or is that number
pub below_or_last : (m n : ℕ) → m < n + 1 → (m < n) ⊎ (m ≡ n)
below_or_last m n h = go _ refl
  where
    go : (t : Bool) → eqb m n ≡ t → (m < n) ⊎ (m ≡ n)
    go true t = inr (eqb-true m n t)
    go false t = let ne : m ≢ n = eqb-false m n t in inl (omega arith)

-- ---- the tree with one node more

-- t' is t with one step more, from a known node by a character to a new place, whose node takes the next number
pub record Grown (t t' : CharTrie) (next : ℕ) (place : ℕ → ParentRef) (parent c : ℕ) (new : ParentRef) : Type 0 where
  pub known : parent < next
  pub within : c < 2 ^ 21
  pub absent : open_step t (place parent) c ≡ Ok None
  pub step_new : open_step t' (place parent) c ≡ Ok (Some new)
  pub node_new : node_at t' new ≡ next
  pub word_new : (used : ℕ) → word_at used t' new ≡ Ok None
  pub childless : (d : ℕ) (q : ParentRef) → d < 2 ^ 21 → open_step t' new d ≢ Ok (Some q)
  pub node_kept : (n : ℕ) → n < next → node_at t' (place n) ≡ node_at t (place n)
  pub step_kept : (n d : ℕ) (q : ParentRef) → n < next → open_step t (place n) d ≡ Ok (Some q) → open_step t' (place n) d ≡ Ok (Some q)
  pub step_back : (n d : ℕ) (q : ParentRef) → n < next → d < 2 ^ 21 → open_step t' (place n) d ≡ Ok (Some q)
      → (open_step t (place n) d ≡ Ok (Some q)) ⊎ ((n ≡ parent) × (d ≡ c) × (q ≡ new))
  pub bits_there : bits_at t (place parent) c ≡ true
  pub bits_kept : (n d : ℕ) → n < next → bits_at t (place n) d ≡ true → bits_at t' (place n) d ≡ true
  pub word_kept : (used n : ℕ) → n < next → word_at used t' (place n) ≡ word_at used t (place n)

module _ {t t' : CharTrie} {next : ℕ} {name : ℕ → List ℕ} {place : ℕ → ParentRef} {parent c : ℕ} {new : ParentRef}
    (tree : Tree t next name place) (grown : Grown t t' next place parent c new) where
  abbrev name' : ℕ → List ℕ
  name' = update_at name next (c ∷ name parent)

  abbrev place' : ℕ → ParentRef
  place' = update_at place next new

  old_name : (n : ℕ) → n < next → name' n ≡ name n
  old_name n h = update_below name next _ n h

  old_place : (n : ℕ) → n < next → place' n ≡ place n
  old_place n h = update_below place next _ n h

  new_name : name' next ≡ c ∷ name parent
  new_name = update_same name next _

  new_place : place' next ≡ new
  new_place = update_same place next _

  root_known : 0 < next
  root_known = omega (arith, grown.known)

  old_child : (n : ℕ) → 0 < n → n < next → Child t' (next + 1) name' place' n
  old_child n s h =
      let o = tree.child n s h in
      record {
        parent = o.parent;
        character = o.character;
        known = omega (arith, o.known);
        within = o.within;
        named = old_name n h ∙ o.named ∙ ap (λ (r : List ℕ). o.character ∷ r) (sym (old_name o.parent o.known));
        step = rw (old_place n h, old_place o.parent o.known) (grown.step_kept o.parent o.character (place n) o.known o.step);
        node = rw (old_place n h) (grown.node_kept n h ∙ o.node);
      }

  new_child : Child t' (next + 1) name' place' next
  new_child = record {
    parent = parent;
    character = c;
    known = omega (arith, grown.known);
    within = grown.within;
    named = new_name ∙ ap (λ (r : List ℕ). c ∷ r) (sym (old_name parent grown.known));
    step = rw (old_place parent grown.known, new_place) grown.step_new;
    node = rw new_place grown.node_new;
  }

  old_led : (n d : ℕ) (q : ParentRef) → n < next → d < 2 ^ 21 → open_step t (place n) d ≡ Ok (Some q) → LedTo t' (next + 1) name' place' n d q
  old_led n d q h l e =
      let o = tree.led n d q h l e in
      record {
        node = o.node;
        known = omega (arith, o.known);
        placed = o.placed ∙ sym (old_place o.node o.known);
        named = old_name o.node o.known ∙ o.named ∙ ap (λ (r : List ℕ). d ∷ r) (sym (old_name n h));
        bits = rw (old_place n h) (grown.bits_kept n d h o.bits);
      }

  new_led : LedTo t' (next + 1) name' place' parent c new
  new_led = record {
    node = next;
    known = omega arith;
    placed = sym new_place;
    named = new_name ∙ ap (λ (r : List ℕ). c ∷ r) (sym (old_name parent grown.known));
    bits = rw (old_place parent grown.known) (grown.bits_kept parent c grown.known grown.bits_there);
  }

  pub grown_tree : Tree t' (next + 1) name' place'
  grown_tree = record {
    root_name = old_name 0 root_known ∙ tree.root_name;
    root_place = old_place 0 root_known ∙ tree.root_place;
    child = λ n s h. child_by n s (below_or_last n next h);
    led = λ n d q h l e. led_by n d q (below_or_last n next h) l e;
  }
    where
      child_by : (n : ℕ) → 0 < n → (n < next) ⊎ (n ≡ next) → Child t' (next + 1) name' place' n
      child_by n s (inl h) = old_child n s h
      child_by n s (inr e) = rw e new_child

      back : (n d : ℕ) (q : ParentRef) → n < next → d < 2 ^ 21 → (open_step t (place n) d ≡ Ok (Some q)) ⊎ ((n ≡ parent) × (d ≡ c) × (q ≡ new))
          → LedTo t' (next + 1) name' place' n d q
      back n d q h l (inl e) = old_led n d q h l e
      back n d q h l (inr e) = rw (e.0, e.1, e.2) new_led

      led_by : (n d : ℕ) (q : ParentRef) → (n < next) ⊎ (n ≡ next) → d < 2 ^ 21 → open_step t' (place' n) d ≡ Ok (Some q) → LedTo t' (next + 1) name' place' n d q
      led_by n d q (inl h) l e = back n d q h l (grown.step_back n d q h l (rw (old_place n h) at e))
      led_by n d q (inr s) l e = absurd (grown.childless d q l (rw (s, new_place) at e))

  -- the new node's word is not in the ledger
  module _ {b : Book} {ledger : List Entry} (words : Words b ledger t next name place) where
    not_held : frequency_in ledger (reverse (c ∷ name parent)) ≡ none
    not_held = not_in_ledger words (c ∷ name parent) (nameless tree parent c grown.known grown.absent)

    abbrev word_of : CharTrie → ParentRef → WordNumber
    word_of = word_at b.head.records

    pub grown_words : Words b ledger t' (next + 1) name' place'
    grown_words = record {
      agrees = λ n h. agrees_by n (below_or_last n next h);
      entered = λ word f e. entered_by word (words.entered word f e);
      own = λ m n k hm hn em en. own_by m n k (below_or_last m next hm) (below_or_last n next hn) em en;
    }
      where
        agrees_by : (n : ℕ) → (n < next) ⊎ (n ≡ next) → Agrees b ledger (reverse (name' n)) (word_of t' (place' n))
        agrees_by n (inl h) = rw (old_place n h, old_name n h, grown.word_kept b.head.records n h) (words.agrees n h)
        agrees_by n (inr e) = rw (e, new_place, new_name, grown.word_new b.head.records) (not_entered not_held)

        entered_by : (word : List ℕ) → NodeOf next name word → NodeOf (next + 1) name' word
        entered_by word its = record { node = its.node; known = omega (arith, its.known); named = old_name its.node its.known ∙ its.named }

        no_record_lem : (k : ℕ) → word_of t' (place' next) ≡ Ok (Some k) → ⊥
        no_record_lem k e =
            let at_new : word_of t' (place' next) ≡ Ok None = ap (word_of t') new_place ∙ grown.word_new b.head.records in
            let z : ◌≡◌ {A = ℕ} 0 1 = cc in omega arith

        old_record : (n k : ℕ) → n < next → word_of t' (place' n) ≡ Ok (Some k) → word_of t (place n) ≡ Ok (Some k)
        old_record n k h e = sym (grown.word_kept b.head.records n h) ∙ ap (word_of t') (sym (old_place n h)) ∙ e

        own_by : (m n k : ℕ) → (m < next) ⊎ (m ≡ next) → (n < next) ⊎ (n ≡ next) → word_of t' (place' m) ≡ Ok (Some k) → word_of t' (place' n) ≡ Ok (Some k) → m ≡ n
        own_by m n k (inl hm) (inl hn) em en = words.own m n k hm hn (old_record m k hm em) (old_record n k hn en)
        own_by m n k (inr e) hn em en = absurd (no_record_lem k (rw e at em))
        own_by m n k (inl hm) (inr e) em en = absurd (no_record_lem k (rw e at en))
