-- Entering a word, by the decision: what is answered and what the book is afterwards.
-- Assumes nothing.
use Rattle.std.specs.Prelude.{Ok, Err}
use mathlib.Core.Path.{◌≡◌, sym, ◌∙◌}
use mathlib.Core.Bool.{Bool, true, false}
use mathlib.Core.List.{List, []}
use mathlib.Core.Option
use mathlib.Core.Option.{Option, none, some, IsSome}
use Prim.Native.Nat.{ℕ, ◌+◌}
use lib.Ieee.{Float}
use lib.IntN.{pos}
use lib.ListN.{get_or, set}
use Rattle.score.specs.Logarithm.{log_float}
use Rattle.trie.specs.declared.ParentRef.TheVariants.{Root}
use Rattle.trie.specs.Trie.{CharTrie, insert}
use Rattle.book.specs.declared.Head.{Head}
use Rattle.book.specs.declared.Entering.TheVariants.{Replace, Insert}
use Rattle.book.specs.declared.Refusal.{Refusal}
use Rattle.book.specs.declared.Refusal.TheVariants.{Damaged}
use Rattle.book.specs.Areas.{book_of}
use Rattle.book.specs.Returns.{Book, damaged_head}
use Rattle.book.specs.Enter.{next_record, records_after_new, with_total, new_cell, cell_with_frequency, replaced, inserted, Decision}
use Rattle.decision.specs.Texts.{decide_text}
use Rattle.entry.specs.Texts.{enter_answer, enter_by, enter_text}

by_decision : (b : Book) (o : Option (List ℕ)) (frequency : ℕ) → IsSome o → damaged_head b ≡ false → (d : Decision) → d ≡ decide_text b o frequency
    → enter_by b (Option.get_or o []) frequency d ≡ enter_text b o frequency
unfolding enter_text decide_text
by_decision b none frequency h sound d e = absurd h
by_decision b (some word) frequency h sound d e = rw (sound, e)

module _ (head : Head) (trie : CharTrie) (r : List ℕ) (l : List Float) (o : Option (List ℕ)) (frequency : ℕ) (h : IsSome o) {damaged : Bool}
    (tested : damaged ≡ damaged_head (book_of head trie r l)) where
  pub head_damaged_lem : damaged ≡ true → enter_answer (Err Damaged) (book_of head trie r l) ≡ enter_text (book_of head trie r l) o frequency
  unfolding enter_text
  head_damaged_lem e = go o h
    where
      go : (p : Option (List ℕ)) → IsSome p → enter_answer (Err Damaged) (book_of head trie r l) ≡ enter_text (book_of head trie r l) p frequency
      go none i = absurd i
      go (some word) i = rw (sym tested, e)

  module _ (sound : damaged ≡ false) {d : Decision} (decides : (l : List Float) → d ≡ decide_text (book_of head trie r l) o frequency) where
    decided : enter_by (book_of head trie r l) (Option.get_or o []) frequency d ≡ enter_text (book_of head trie r l) o frequency
    decided = by_decision (book_of head trie r l) o frequency h (sym tested ∙ sound) d (decides l)

    pub refused : {x : Refusal} → d ≡ Err x → enter_answer (Err x) (book_of head trie r l) ≡ enter_text (book_of head trie r l) o frequency
    refused e = rw e at decided

    -- the same with the areas as the writes leave them; the logarithm that is stored is the frequency's
    module _ {logarithm : Float} (its : logarithm ≡ log_float frequency) where
      pub replaced_by : {n total : ℕ} → d ≡ Ok (Replace n total) → {cell : ℕ} → cell ≡ cell_with_frequency (get_or r n 0) frequency
          → (r₁ : List ℕ) → r₁ ≡ set r n cell → (l₁ : List Float) → l₁ ≡ set l n logarithm
          → enter_answer (Ok tt) (book_of (with_total head total) trie r₁ l₁) ≡ enter_text (book_of head trie r l) o frequency
      unfolding replaced
      replaced_by e ec r₁ er l₁ el = rw (er, el, its, ec) (rw e at decided)

      pub inserted_by : {slots nodes total : ℕ} → d ≡ Ok (Insert slots nodes total) → (n : ℕ) → n ≡ next_record head
          → (trie₁ : CharTrie) → trie₁ ≡ insert trie Root (Option.get_or o []) head.next (pos n)
          → (r₁ : List ℕ) → r₁ ≡ set r n (new_cell frequency) → (l₁ : List Float) → l₁ ≡ set l n logarithm
          → enter_answer (Ok tt) (book_of (record { records = records_after_new head; slots = head.slots + slots; next = head.next + nodes; total = total })
          trie₁ r₁ l₁) ≡ enter_text (book_of head trie r l) o frequency
      unfolding inserted
      inserted_by e n taken trie₁ et r₁ er l₁ el = rw (et, er, el, its, taken) (rw e at decided)
