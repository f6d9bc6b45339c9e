-- A call that answers as its definition says returns document 01's numbers as that definition does: each promise with its second half, in those numbers.
-- Assumes nothing.
use mathlib.Core.Path.{◌≡◌, refl, ap, ◌∙◌}
use mathlib.Core.List.{List}
use Prim.Native.Nat.{ℕ}
use lib.Ieee.{Float}
use Rattle.std.specs.Prelude.{Result, Ok, Err}
use Rattle.trie.specs.Trie.{CharTrie}
use Rattle.book.specs.declared.Head.{Head}
use Rattle.book.specs.declared.LoadError.{LoadError}
use Rattle.book.specs.declared.Refusal.{Refusal}
use Rattle.book.specs.Returns.{Book, Found, number_of, PrepareAnswer, prepare_answer}
use Rattle.book.specs.Enter.{LoadAnswer, AddAnswer, loaded, added}
use Rattle.book.specs.Numbers.{value, returned, prepared_returns, found_returns, loaded_returns, added_returns}

pub prepared_in_numbers : {p : Result Head Refusal} {t : CharTrie} {f : List ℕ} {l : List Float} {a : PrepareAnswer}
    → prepare_answer p t f l ≡ a
    → (prepare_answer p t f l ≡ a) × (prepared_returns p ≡ prepared_returns a.prepared)
prepared_in_numbers e = (e, ap (λ (x : PrepareAnswer). prepared_returns x.prepared) e)

pub found_in_numbers : {found a : Found} → found ≡ a → (found ≡ a) × (found_returns found ≡ found_returns a)
found_in_numbers e = (e, ap found_returns e)

pub loaded_in_numbers : (r : Result ℕ LoadError) (b : Book) {a : LoadAnswer}
    → loaded r b ≡ a
    → (loaded r b ≡ a) × (loaded_returns r ≡ returned (number_of a.outcome) (value a.line))
loaded_in_numbers r b e = (e, go r ∙ ap (λ (x : LoadAnswer). returned (number_of x.outcome) (value x.line)) e)
  where
    go : (x : Result ℕ LoadError) → loaded_returns x ≡ returned (number_of (loaded x b).outcome) (value (loaded x b).line)
    go (Ok lines) = refl
    go (Err stopped) = refl

pub added_in_numbers : (r : Result ℕ Refusal) (b : Book) {a : AddAnswer}
    → added r b ≡ a
    → (added r b ≡ a) × (added_returns r ≡ returned (number_of a.outcome) (value a.frequency))
added_in_numbers r b e = (e, go r ∙ ap (λ (x : AddAnswer). returned (number_of x.outcome) (value x.frequency)) e)
  where
    go : (x : Result ℕ Refusal) → added_returns x ≡ returned (number_of (added x b).outcome) (value (added x b).frequency)
    go (Ok frequency) = refl
    go (Err refusal) = refl
