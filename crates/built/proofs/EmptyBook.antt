-- The empty book of any sizes that document 01 allows is built, with the empty ledger: its one node is the root, no key is in use, and no word is there.
-- Assumes nothing.
use mathlib.Core.Path.{◌≡◌, refl, sym, ◌∙◌}
use mathlib.Core.List.{[]}
use Prim.Native.Nat.{ℕ, zero, suc}
use native.Mathlib.Omega.{arith}
use lib.ListN.{get_or, replicate, length-replicate}
use Rattle.trie.specs.declared.ParentRef.{ParentRef}
use Rattle.trie.specs.declared.ParentRef.TheVariants.{Root}
use Rattle.trie.specs.Trie.{no_word, node_at, word_at}
use Rattle.book.specs.Returns.{Book, empty_book}
use Rattle.built.specs.Ledger.{frequency_in, sum_of}
use Rattle.built.specs.Calls.{allowed_sizes}
use Rattle.built.specs.Built.{Sizes, Tree, Store, not_entered, Words, Records, Built}
use Rattle.built.proofs.AllowedSizes.{Limits, limits_of}
use Rattle.built.proofs.Keys.{all_empty, found_used}
use Rattle.built.proofs.Steps.{key_some, Leads, by_root, by_slot, leads_of}

zeros : (n i : ℕ) → ◌≡◌ {A = ℕ} (get_or (replicate n 0) i 0) 0
zeros zero i = refl
zeros (suc n) zero = refl
zeros (suc n) (suc i) = zeros n i

module _ (roots slots records : ℕ) (sizes : allowed_sizes roots slots records) where
  abbrev b : Book
  b = empty_book roots slots records

  limits : Limits roots roots slots slots slots records records
  limits = limits_of roots roots slots slots slots records records sizes

  empty_sizes : Sizes b.trie
  unfolding empty_book
  empty_sizes =
      let root_entries = length-replicate {A = ℕ} roots 0 in
      let keys = length-replicate {A = ℕ} slots 0 in
      record {
        roots_least = rw root_entries limits.roots_least;
        roots_most = rw root_entries limits.roots_most;
        root_words_lem = length-replicate roots no_word ∙ sym root_entries;
        slots = rw keys limits.slots;
        children = refl;
        words = length-replicate slots no_word ∙ sym keys;
      }

  no_step : (c : ℕ) (q : ParentRef) → Leads b.trie Root c q → ⊥
  unfolding empty_book
  no_step c q (by_root e nz) = nz (zeros roots c)
  no_step c q (by_slot {i} e f) = found_used b.trie.keys _ (key_some (node_at b.trie Root) c) i f (zeros slots i)

  empty_tree : Tree b.trie 1 (λ n. []) (λ n. Root)
  empty_tree = record {
    root_name = refl;
    root_place = refl;
    child = λ n s h. absurd (omega arith);
    led = λ n c q h l e. absurd (no_step c q (leads_of b.trie Root c q e));
  }

  empty_store : Store b.trie 1 0
  unfolding empty_book
  empty_store =
      let root_entries = length-replicate {A = ℕ} roots 0 in
      let keys = length-replicate {A = ℕ} slots 0 in
      record {
        found = λ i h used. absurd (used (zeros slots i));
        keys_least = λ i h used. absurd (used (zeros slots i));
        keys_most = λ i h used. absurd (used (zeros slots i));
        slot_count_lem = rw (all_empty slots, keys) (omega arith);
        node_count = rw (all_empty roots, root_entries) (omega arith);
        load = omega arith;
      }

  empty_words : Words b [] b.trie 1 (λ n. []) (λ n. Root)
  unfolding word_at frequency_in
  empty_words = record {
    agrees = λ n h. not_entered refl;
    entered = λ word f e. let z : ◌≡◌ {A = ℕ} 0 1 = cc in absurd (omega arith);
    own = λ m n k hm hn em en. omega arith;
  }

  empty_records : Records b []
  unfolding empty_book sum_of
  empty_records =
      let long = length-replicate {A = ℕ} records 0 in
      record {
        records_least = rw long limits.records_least;
        records_most = rw long limits.records_most;
        logarithms = length-replicate records _ ∙ sym long;
        used = omega arith;
        total = refl;
        total_most = omega arith;
        once = tt;
      }

  pub empty_built : Built b []
  unfolding empty_book
  empty_built = record {
    name = λ n. [];
    place = λ n. Root;
    tables = record { sizes = empty_sizes; tree = empty_tree; store = empty_store; words = empty_words };
    records = empty_records;
  }
