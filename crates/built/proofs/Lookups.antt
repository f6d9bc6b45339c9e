-- Lookups and walks in a built book answer as the ledger does, and meet no damage.
-- From a known node a step that tests the bits finds what one finds that tests none, since the invariant has the bits of every step that leads on. So a
-- walk follows names: it arrives at the node whose name the characters make, or stops, and then no node has that name. The word number there agrees with
-- the ledger, and a word of the ledger has a node, so that a name without a node is no word's beginning.
-- Assumes nothing.
use mathlib.Core.Path.{◌≡◌, refl, sym, ap, ◌∙◌, subst}
use mathlib.Core.Bool.{Bool, true, false}
use mathlib.Core.Logic.{◌≢◌}
use mathlib.Core.List.{List, [], ◌∷◌, reverse, reverse_aux, reverse-cons, reverse-reverse}
use mathlib.Core.Option.{none}
use Prim.Native.Nat.{ℕ, ◌+◌, ◌^◌, ◌<◌}
use native.Mathlib.Omega.{arith}
use Rattle.std.specs.Prelude.{Ok, Err, Some, None}
use Rattle.trie.specs.declared.ParentRef.{ParentRef}
use Rattle.trie.specs.declared.ParentRef.TheVariants.{Root}
use Rattle.trie.specs.Trie.{CharTrie, open_step, bits_at, tested_step, walk, word_at, get_of, Step, WordNumber, damage}
use Rattle.book.specs.Returns.{Book}
use Rattle.book.specs.Prefixes.{Edge, Walked, ended, broken, met_before, walk_on, words_from}
use Rattle.built.specs.Ledger.{Entry, frequency_in, edge_before, words_after, ledger_words}
use Rattle.built.specs.Built.{Tree, Agrees, not_entered, in_record, Tables}
use Rattle.built.specs.Claims.{HeldAs, held, absent}
use Rattle.built.proofs.Steps.{Characters, undamaged_step, next_some, nameless, nameless_longer, not_in_ledger}

-- a walk that met these words and no damage
abbrev pub met : List Edge → Walked
met edges = record { edges = edges; damaged = false }

module _ {b : Book} {ledger : List Entry} {t : CharTrie} {next slots : ℕ} {name : ℕ → List ℕ} {place : ℕ → ParentRef}
    (tables : Tables b ledger t next slots name place) where
  abbrev tree : Tree t next name place
  tree = tables.tree

  pub root_known : 0 < next
  root_known = next_some tables.sizes tables.store

  undamaged : (p : ParentRef) (c : ℕ) → open_step t p c ≢ Err damage
  undamaged = undamaged_step tables.sizes tables.store

  -- ---- one step

  pub tested : (n c : ℕ) → n < next → c < 2 ^ 21 → tested_step t (place n) c ≡ open_step t (place n) c
  unfolding tested_step
  tested n c h l = go (open_step t (place n) c) refl (bits_at t (place n) c) refl
    where
      go : (s : Step) → open_step t (place n) c ≡ s → (bits : Bool) → bits_at t (place n) c ≡ bits
          → ◌≡◌ {A = Step} (elim (bits_at t (place n) c) [ true ↦ open_step t (place n) c | false ↦ Ok None ]) (open_step t (place n) c)
      go s e true eb = rw eb
      go (Ok (Some q)) e false eb = let its = (tree.led n c q h l e).bits in let z : ◌≡◌ {A = ℕ} 0 1 = cc in absurd (omega arith)
      go (Ok None) e false eb = rw eb (sym e)
      go (Err d) e false eb = absurd (undamaged (place n) c e)

  -- where no node has a name, none has one that goes on from it
  nameless_on : (cs r : List ℕ) → ((m : ℕ) → m < next → name m ≢ r) → (m : ℕ) → m < next → name m ≢ reverse_aux cs r
  nameless_on [] r none_has = none_has
  nameless_on (c ∷ cs) r none_has = nameless_on cs (c ∷ r) (nameless_longer tree c r none_has)

  -- ---- a walk

  -- a walk along a name arrives at its node, or there is none
  data Walks (r : List ℕ) : Step → Type 0 where
    arrives : {m : ℕ} → m < next → name m ≡ r → Walks r (Ok (Some (place m)))
    stops : ((m : ℕ) → m < next → name m ≢ r) → Walks r (Ok None)

  walks : (cs : List ℕ) (n : ℕ) → n < next → Characters cs → Walks (reverse_aux cs (name n)) (walk t (place n) cs)
  unfolding walk
  walks [] n h w = arrives h refl
  walks (c ∷ cs) n h w = rw (tested n c h w.0, walk) (go (open_step t (place n) c) refl (λ m hm. walks cs m hm w.1))
    where
      go : (s : Step) → open_step t (place n) c ≡ s → ((m : ℕ) → m < next → Walks (reverse_aux cs (name m)) (walk t (place m) cs))
          → Walks (reverse_aux cs (c ∷ name n)) (elim s [ Ok (Some q) ↦ walk t q cs | Ok None ↦ Ok None | Err d ↦ Err d ])
      go (Ok (Some q)) e rest =
          let led = tree.led n c q h w.0 e in
          rw (led.placed, ← led.named) (rest led.node led.known)
      go (Ok None) e rest = stops (nameless_on cs (c ∷ name n) (nameless tree n c h e))
      go (Err d) e rest = absurd (undamaged (place n) c e)

  from_root_lem : (word : List ℕ) → Characters word → Walks (reverse word) (walk t Root word)
  from_root_lem word w =
      subst (λ (p : ParentRef). Walks (reverse word) (walk t p word)) tree.root_place
      (subst (λ (r : List ℕ). Walks (reverse_aux word r) (walk t (place 0) word)) tree.root_name (walks word 0 root_known w))

  -- ---- a lookup

  -- a word that is found has a node with its record, and a word that is not found is not in the ledger
  pub data Located (word : List ℕ) : WordNumber → Type 0 where
    at_node : {m n : ℕ} → m < next → name m ≡ reverse word → word_at b.head.records t (place m) ≡ Ok (Some n) → Located word (Ok (Some n))
    nowhere : frequency_in ledger word ≡ none → Located word (Ok None)

  pub located : (word : List ℕ) → Characters word → Located word (get_of b.head.records t word)
  unfolding get_of
  located word w = go (walk t Root word) (from_root_lem word w)
    where
      by_number : (m : ℕ) → m < next → name m ≡ reverse word → (number : WordNumber) → word_at b.head.records t (place m) ≡ number
          → Agrees b ledger (reverse (name m)) number → Located word number
      by_number m h e number en (not_entered f) = nowhere (sym (ap (frequency_in ledger) (ap reverse e ∙ reverse-reverse word)) ∙ f)
      by_number m h e number en (in_record k f l) = at_node h e en

      go : (s : Step) → Walks (reverse word) s → Located word
          (elim s [ Ok (Some p) ↦ word_at b.head.records t p | Ok None ↦ Ok None | Err d ↦ Err d ])
      go s (arrives {m} h e) = by_number m h e (word_at b.head.records t (place m)) refl (tables.words.agrees m h)
      go s (stops n) = nowhere (sym (ap (frequency_in ledger) (reverse-reverse word)) ∙ not_in_ledger tables.words (reverse word) n)

  -- so it is held as the ledger has it
  pub record_agrees : (word : List ℕ) (m n : ℕ) → m < next → name m ≡ reverse word → word_at b.head.records t (place m) ≡ Ok (Some n)
      → Agrees b ledger word (Ok (Some n))
  record_agrees word m n h e en =
      subst (Agrees b ledger word) en
      (subst (λ (v : List ℕ). Agrees b ledger v (word_at b.head.records t (place m))) (ap reverse e ∙ reverse-reverse word) (tables.words.agrees m h))

  pub got : (word : List ℕ) → Characters word → HeldAs b (frequency_in ledger word) (get_of b.head.records t word)
  got word w = go (get_of b.head.records t word) (located word w)
    where
      by_record : (n : ℕ) → Agrees b ledger word (Ok (Some n)) → HeldAs b (frequency_in ledger word) (Ok (Some n))
      by_record n (in_record h e l) = rw e (held h refl l)

      go : (g : WordNumber) → Located word g → HeldAs b (frequency_in ledger word) g
      go g (at_node {m} {n} h e en) = by_record n (record_agrees word m n h e en)
      go g (nowhere e) = rw e absent

  -- ---- the bits hide nothing

  pub hidden_nowhere : (word : List ℕ) (p : ParentRef) (c : ℕ) → Characters word → c < 2 ^ 21 → walk t Root word ≡ Ok (Some p) → tested_step t p c ≡ open_step t p c
  hidden_nowhere word p c w l e = go (walk t Root word) (from_root_lem word w) e
    where
      go : (s : Step) → Walks (reverse word) s → s ≡ Ok (Some p) → tested_step t p c ≡ open_step t p c
      go s (arrives {m} h en) q = let same : place m ≡ p = cc in rw (← same) (tested m c h l)
      go s (stops n) q = let z : ◌≡◌ {A = ℕ} 0 1 = cc in absurd (omega arith)

  -- ---- a cut's walk

  no_words : (cs r : List ℕ) (at : ℕ) → ((m : ℕ) → m < next → name m ≢ r) → words_after ledger (reverse r) at cs ≡ []
  unfolding words_after
  no_words [] r at none_has = refl
  no_words (c ∷ cs) r at none_has =
      let longer = nameless_longer tree c r none_has in
      rw (← reverse-cons c r, not_in_ledger tables.words (c ∷ r) longer) (no_words cs (c ∷ r) (at + 1) longer)

-- in the book itself
module _ {b : Book} {ledger : List Entry} {next slots : ℕ} {name : ℕ → List ℕ} {place : ℕ → ParentRef}
    (tables : Tables b ledger b.trie next slots name place) where
  met_by : (at : ℕ) (word : List ℕ) (number : WordNumber) → Agrees b ledger word number → (edges : List Edge)
      → met_before b number at (met edges) ≡ met (edge_before at (frequency_in ledger word) edges)
  met_by at word number (not_entered e) edges = rw e
  met_by at word number (in_record h e l) edges = rw (e, l)

  walked : (cs : List ℕ) (n at : ℕ) → n < next → Characters cs → walk_on b (place n) at cs ≡ met (words_after ledger (reverse (name n)) at cs)
  unfolding walk_on words_after
  walked [] n at h w = refl
  walked (c ∷ cs) n at h w =
      rw (tested tables n c h w.0, walk_on, ← reverse-cons c (name n)) (go (open_step b.trie (place n) c) refl (λ m hm. walked cs m (at + 1) hm w.1))
    where
      go : (s : Step) → open_step b.trie (place n) c ≡ s
          → ((m : ℕ) → m < next → walk_on b (place m) (at + 1) cs ≡ met (words_after ledger (reverse (name m)) (at + 1) cs))
          → ◌≡◌ {A = Walked} (elim s [
            | Ok (Some q) ↦ met_before b (word_at b.head.records b.trie q) (at + 1) (walk_on b q (at + 1) cs)
            | Ok None ↦ ended
            | Err d ↦ broken
          ])
          (met (edge_before (at + 1) (frequency_in ledger (reverse (c ∷ name n))) (words_after ledger (reverse (c ∷ name n)) (at + 1) cs)))
      go (Ok (Some q)) e rest =
          let led = tables.tree.led n c q h w.0 e in
          let after : List ℕ → Walked = λ r. met (edge_before (at + 1) (frequency_in ledger (reverse r)) (words_after ledger (reverse r) (at + 1) cs)) in
          let its_word = word_at b.head.records b.trie (place led.node) in
          let here : met_before b its_word (at + 1) (walk_on b (place led.node) (at + 1) cs) ≡ after (name led.node) =
          rw (rest led.node led.known) (met_by (at + 1) (reverse (name led.node)) its_word (tables.words.agrees led.node led.known) _) in
          rw led.placed (subst (λ (r : List ℕ). met_before b its_word (at + 1) (walk_on b (place led.node) (at + 1) cs) ≡ after r) led.named here)
      go (Ok None) e rest =
          let none_there = nameless tables.tree n c h e in
          rw (not_in_ledger tables.words (c ∷ name n) none_there, no_words tables cs (c ∷ name n) (at + 1) none_there)
      go (Err d) e rest = absurd (undamaged tables (place n) c e)

  pub walked_from_root : (at : ℕ) (cs : List ℕ) → Characters cs → words_from b at cs ≡ met (ledger_words ledger at cs)
  unfolding words_from ledger_words
  walked_from_root at cs w =
      subst (λ (p : ParentRef). walk_on b p at cs ≡ met (words_after ledger [] at cs)) tables.tree.root_place
      (subst (λ (r : List ℕ). walk_on b (place 0) at cs ≡ met (words_after ledger (reverse r) at cs)) tables.tree.root_name
      (walked cs 0 at (root_known tables) w))
