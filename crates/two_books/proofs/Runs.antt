-- A list of calls that ran is one by the definitions: what a contract says of an answer and of the book that was left determines both, so by induction the
-- answers and the last book are those that `built/specs/Calls.antt` defines. So the book is one that calls built, and its ledger the one beside it.
-- Assumes nothing.
use mathlib.Core.Path.{◌≡◌, refl, sym, ap, subst, ◌∙◌}
use mathlib.Core.List.{List, [], ◌∷◌}
use Prim.Native.Nat.{suc}
use lib.ListN.{length, take}
use Rattle.book.specs.Returns.{Book}
use Rattle.book.specs.Enter.{LoadAnswer, AddAnswer}
use Rattle.built.specs.Calls.{Call, Load, Add, Answer, answer, answer_of, book_after, book_after_all, answers_of, ledger_after_all, book_from, answers_from}
use Rattle.built.specs.Calls.{BuiltByCalls, after}
use Rattle.two_books.specs.Runs.{Went, Ran, ended, went, Run, ledger_of}
use Rattle.two_books.specs.Demand3.{AnswersInTurn}
use Rattle.two_books.proofs.Turns.{answered_in_turn}

-- ---- one call

left_as : (lent left : Book) (call : Call) (a : Answer) → Went lent call a left → left ≡ book_after lent call
unfolding book_after
left_as lent left (Load text) a w = ap (λ (x : LoadAnswer). x.book) w
left_as lent left (Add word frequency) a w = ap (λ (x : AddAnswer). x.book) w

answered_as : (lent left : Book) (call : Call) (a : Answer) → Went lent call a left → a ≡ answer_of lent call
unfolding answer_of
answered_as lent left (Load text) a w = ap (λ (x : LoadAnswer). answer x.outcome x.line) w
answered_as lent left (Add word frequency) a w = ap (λ (x : AddAnswer). answer x.outcome x.frequency) w

-- ---- a list of calls

ran_book : (b last : Book) (calls : List Call) (answers : List Answer) → Ran b calls answers last → last ≡ book_after_all b calls
unfolding book_after_all
ran_book b last [] (a ∷ answers) x'' = elim x'' [ ]
ran_book b last (call ∷ calls) [] x3 = elim x3 [ ]
ran_book b last [] [] ended = refl
ran_book b last (call ∷ calls) (a ∷ answers) (went left w r) =
    ran_book left last calls answers r ∙ ap (λ (x : Book). book_after_all x calls) (left_as b left call a w)

ran_answers : (b last : Book) (calls : List Call) (answers : List Answer) → Ran b calls answers last → answers ≡ answers_of b calls
unfolding answers_of
ran_answers b last [] (a ∷ answers) x'' = elim x'' [ ]
ran_answers b last (call ∷ calls) [] x3 = elim x3 [ ]
ran_answers b last [] [] ended = refl
ran_answers b last (call ∷ calls) (a ∷ answers) (went left w r) =
    ap (λ (x : List Answer). a ∷ x) (ran_answers left last calls answers r)
    ∙ ap (λ (x : Answer). x ∷ answers_of left calls) (answered_as b left call a w)
    ∙ ap (λ (x : Book). answer_of b call ∷ answers_of x calls) (left_as b left call a w)

module _ (r : Run) where
  book_is : r.book ≡ book_from r.roots r.slots r.records r.calls
  book_is = ran_book _ _ _ _ r.ran

  answers_are : r.answers ≡ answers_from r.roots r.slots r.records r.calls
  answers_are = ran_answers _ _ _ _ r.ran

  -- the book is one that calls built, and the ledger is fed what they returned
  pub run_built : BuiltByCalls r.book (ledger_of r)
  run_built =
      subst (λ (b : Book). BuiltByCalls b (ledger_of r)) (sym book_is)
      (subst (λ (answers : List Answer). BuiltByCalls (book_from r.roots r.slots r.records r.calls) (ledger_after_all [] r.calls answers))
      (sym answers_are)
      (after r.roots r.slots r.records r.calls r.allowed))

  pub run_in_turn : AnswersInTurn r
  run_in_turn earlier call later e =
      ap (λ (answers : List Answer). take (suc (length earlier)) answers)
      (answers_are ∙ ap (λ (calls : List Call). answers_from r.roots r.slots r.records calls) e)
      ∙ answered_in_turn _ earlier call later
