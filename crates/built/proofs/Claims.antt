-- The claims about books built by calls, each from the invariant: every list of calls leaves a built book (`Calls`), in which lookups and walks answer
-- by the ledger (`Lookups`), the head is within its bounds (`Entering`), and the total is the ledger's sum.
-- Assumes nothing.
use Rattle.std.specs.Prelude.{Err}
use mathlib.Core.Path.{◌≡◌, refl, sym, ap, ◌∙◌}
use mathlib.Core.Bool.{Bool, true, false, cond}
use mathlib.Core.List.{List, [], ◌∷◌, ◌++◌, append_assoc}
use mathlib.Core.Option.{Option, none, some}
use Prim.Native.Nat.{ℕ, suc, ◌+◌}
use lib.Dec.{leb}
use lib.ListN.{length, take}
use Rattle.utf8.specs.Text.{chars_of}
use Rattle.trie.specs.Trie.{walk, word_at, get_of, WordNumber}
use Rattle.book.specs.declared.Refusal.TheVariants.{TooLong}
use Rattle.book.specs.Returns.{Book, sized, longest_text, empty_book, emptied, prepare_of, found_by, lookup_chars, lookup_of}
use Rattle.built.specs.Ledger.{Entry, frequency_in, found_in_ledger, ledger_lookup_chars, ledger_lookup, words_after, ledger_words}
use Rattle.built.specs.Calls.{book_after_all, ledger_after_all, after}
use Rattle.built.specs.Built.{Built}
use Rattle.built.specs.Claims.{BuiltHasInvariant, PreparedIsBuilt, HeldAs, held, absent, HeldAsLedger, LookupAsLedger, WalkAsLedger, TotalIsSum}
use Rattle.built.specs.Claims.{LedgerEachOnce, NoDamage, NoDamageAnswered, BitsHideNothing, TwoBooksWalkAlike}
use Rattle.built.proofs.AllowedSizes.{lengths_allowed}
use Rattle.built.proofs.Steps.{Characters, ends}
use Rattle.built.proofs.LineWords.{scalar_within, scalars_within, text_characters}
use Rattle.built.proofs.Lookups.{met, got, hidden_nowhere, walked_from_root}
use Rattle.built.proofs.Entering.{next_least, next_most, head_undamaged, sizes_allowed}
use Rattle.built.proofs.Calls.{built_by_calls, none_damaged}

pub built_has_invariant : BuiltHasInvariant
built_has_invariant b ledger (after roots slots records calls sizes) = built_by_calls roots slots records calls sizes

prepared_empty : (b : Book) → sized b ≡ true
    → prepare_of b.trie b.records b.logarithms
    ≡ emptied (empty_book (length b.trie.root_children) (length b.trie.keys) (length b.records))
unfolding prepare_of
prepared_empty b sizes = rw sizes

pub prepared_is_built : PreparedIsBuilt
unfolding book_after_all ledger_after_all
prepared_is_built b sizes = (prepared_empty b sizes, after _ _ _ [] (lengths_allowed _ _ _ _ _ _ _ sizes))

-- ---- the words

got_in : (b : Book) (ledger : List Entry) → Built b ledger → (word : List ℕ) → Characters word
    → HeldAs b (frequency_in ledger word) (get_of b.head.records b.trie word)
got_in b ledger built word w = got built.tables word w

pub held_as_ledger : HeldAsLedger
held_as_ledger b ledger by word s = got_in b ledger (built_has_invariant b ledger by) word (scalars_within word s)

-- the public answer of what is found
found_as_lem : (b : Book) (f : Option ℕ) (g : WordNumber) → HeldAs b f g → found_by b g ≡ found_in_ledger f
found_as_lem b f g (held h e l) = rw e
found_as_lem b f g absent = refl

pub lookup_as_ledger : LookupAsLedger
unfolding lookup_of ledger_lookup get_of walk word_at
lookup_as_ledger b ledger by text = rw (sizes_allowed built) (go (leb (length text) longest_text))
  where
    built : Built b ledger
    built = built_has_invariant b ledger by

    chars : (o : Option (List ℕ)) → chars_of text ≡ o → lookup_chars b o ≡ ledger_lookup_chars ledger o
    chars none e = refl
    chars (some []) e = found_as_lem b _ _ (got_in b ledger built [] tt)
    chars (some (c ∷ cs)) e = rw (head_undamaged built) (found_as_lem b _ _ (got_in b ledger built (c ∷ cs) (text_characters text (c ∷ cs) e)))

    go : (t : Bool) → cond t (lookup_chars b (chars_of text)) (Err TooLong) ≡ cond t (ledger_lookup_chars ledger (chars_of text)) (Err TooLong)
    go true = chars (chars_of text) refl
    go false = refl

pub walk_as_ledger : WalkAsLedger
walk_as_ledger b ledger by at cs s =
    let built = built_has_invariant b ledger by in
    walked_from_root built.tables at cs (scalars_within cs s)

-- ---- the total

pub total_is_sum : TotalIsSum
total_is_sum b ledger by = let built = built_has_invariant b ledger by in (built.records.total, built.records.total_most)

pub ledger_each_once : LedgerEachOnce
ledger_each_once b ledger by = (built_has_invariant b ledger by).records.once

-- ---- no damage

pub no_damage : NoDamage
no_damage b ledger by =
    let built = built_has_invariant b ledger by in
    record {
      sizes = sizes_allowed built;
      head = head_undamaged built;
      next_least = next_least built;
      next_most = next_most built;
      probes_end = ends built.tables.sizes built.tables.store;
    }

pub no_damage_answered : NoDamageAnswered
no_damage_answered roots slots records calls sizes = none_damaged roots slots records calls sizes

-- ---- the filter bits

pub bits_hide_nothing : BitsHideNothing
bits_hide_nothing b ledger by word p c s sc e =
    let built = built_has_invariant b ledger by in
    hidden_nowhere built.tables word p c (scalars_within word s) (scalar_within c sc) e

-- ---- two books

pub same_words : (ledger ledger' : List Entry) (cs read : List ℕ) (at : ℕ)
    → ((n : ℕ) → frequency_in ledger (read ++ take (suc n) cs) ≡ frequency_in ledger' (read ++ take (suc n) cs))
    → words_after ledger read at cs ≡ words_after ledger' read at cs
unfolding words_after
same_words ledger ledger' [] read at same = refl
same_words ledger ledger' (c ∷ cs) read at same =
    rw (same 0, same_words ledger ledger' cs (read ++ (c ∷ [])) (at + 1) (λ n. rw append_assoc (same (suc n))))

pub two_books_walk_alike : TwoBooksWalkAlike
unfolding ledger_words
two_books_walk_alike b b' ledger ledger' by by' at cs s same =
    walk_as_ledger b ledger by at cs s ∙ ap met (same_words ledger ledger' cs [] at same) ∙ sym (walk_as_ledger b' ledger' by' at cs s)
