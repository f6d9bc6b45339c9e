-- What the code sets at a place, by the kind of place that it met: each case of `with_bits` and `with_word`, and a place that is new. Assumes nothing.
use Prim.Native.Nat.{ℕ}
use mathlib.Core.Path.{◌≡◌}
use mathlib.Core.List.{List}
use lib.IntN.{pos}
use lib.ListN.{get_or, set}
use Rattle.arith.specs.Bits.{with_bit}
use Rattle.trie.specs.declared.ParentRef.{ParentRef}
use Rattle.trie.specs.declared.ParentRef.TheVariants.{Root, RootEntry, Slot}
use Rattle.trie.specs.Trie.{no_word, child_of, word_of, keys_of, links_of, trie_of, CharTrie, key_bit, child_bit, with_bits, with_word, new_root_entry, new_slot}
use Rattle.trie.proofs.Packed.{child_at, set_child, set_word, same_child, same_word_lem}

-- ---- at a root entry

module _ (roots slots : List ℕ) (p : ParentRef) where
  abbrev tables : CharTrie
  tables = trie_of roots slots

  pub bits_root : (ch : ℕ) → p ≡ Root → tables ≡ with_bits tables p ch
  unfolding with_bits
  bits_root ch e = rw e

  pub word_root : (number : ℕ) → p ≡ Root → tables ≡ with_word tables p (pos number)
  unfolding with_word
  word_root number e = rw e

  module _ (i : ℕ) (e : p ≡ RootEntry i) (link : ℕ) where
    pub bits_entry : (ch bit : ℕ) → bit ≡ child_bit ch → child_of link ≡ with_bit (child_of (get_or roots i 0)) bit → word_of link ≡ word_of (get_or roots i 0)
        → trie_of (set roots i link) slots ≡ with_bits tables p ch
    unfolding with_bits
    bits_entry ch bit b child word = rw (e, set_child roots i link, same_word_lem roots i link word, child, child_at roots i, b)

    pub word_entry : (number : ℕ) → child_of link ≡ child_of (get_or roots i 0) → word_of link ≡ pos number → trie_of (set roots i link) slots ≡ with_word tables p (pos number)
    unfolding with_word
    word_entry number child word = rw (e, same_child roots i link child, set_word roots i link, word)

  -- ---- at a slot, whose key and link were read, and stored again one after the other

  module _ (i : ℕ) (e : p ≡ Slot i) (link new : ℕ) (read : link ≡ get_or (links_of slots) i 0) where
    module _ (slots₁ : List ℕ) (keys : keys_of slots₁ ≡ keys_of slots) (links : links_of slots₁ ≡ set (links_of slots) i new) where
      pub word_slot : (number : ℕ) → child_of new ≡ child_of link → word_of new ≡ pos number → trie_of roots slots₁ ≡ with_word tables p (pos number)
      unfolding with_word
      word_slot number child word = rw (e, keys, links, same_child (links_of slots) i new (rw (← read) child), set_word (links_of slots) i new, word)

    module _ (key new_key : ℕ) (key_read : key ≡ get_or (keys_of slots) i 0) (slots₁ slots₂ : List ℕ)
        (keys : keys_of slots₁ ≡ set (keys_of slots) i new_key) (same_links : links_of slots₁ ≡ links_of slots)
        (same_keys : keys_of slots₂ ≡ keys_of slots₁) (links : links_of slots₂ ≡ set (links_of slots₁) i new) where
      pub bits_slot : (ch kb cb : ℕ) → kb ≡ key_bit ch → new_key ≡ with_bit key kb → cb ≡ child_bit ch
          → child_of new ≡ with_bit (child_of link) cb → word_of new ≡ word_of link → trie_of roots slots₂ ≡ with_bits tables p ch
      unfolding with_bits
      bits_slot ch kb cb key_is k child_is child word =
          rw (
            e,
            same_keys,
            keys,
            links,
            same_links,
            set_child (links_of slots) i new,
            same_word_lem (links_of slots) i new (rw (← read) word),
            child,
            child_at (links_of slots) i,
            ← read,
            k,
            key_read,
            key_is,
            child_is,
          )

-- ---- a place that is new

pub entry_new : (roots slots : List ℕ) (ch node link : ℕ) → child_of link ≡ node → word_of link ≡ no_word
    → trie_of (set roots ch link) slots ≡ new_root_entry (trie_of roots slots) ch node
entry_new roots slots ch node link child word = rw (set_child roots ch link, set_word roots ch link, child, word)

pub slot_new : (roots slots slots₁ slots₂ : List ℕ) (i key node link : ℕ) → keys_of slots₁ ≡ set (keys_of slots) i key → links_of slots₁ ≡ links_of slots
    → keys_of slots₂ ≡ keys_of slots₁ → links_of slots₂ ≡ set (links_of slots₁) i link → child_of link ≡ node → word_of link ≡ no_word
    → trie_of roots slots₂ ≡ new_slot (trie_of roots slots) i key node
slot_new roots slots slots₁ slots₂ i key node link keys same_links same_keys links child word =
    rw (same_keys, keys, links, same_links, set_child (links_of slots) i link, set_word (links_of slots) i link, child, word)
