-- "each call of the lists answers as it defines for the book that call got": by induction over the calls before it.
-- Assumes nothing.
use mathlib.Core.Path.{◌≡◌, refl, ap}
use mathlib.Core.List.{List, [], ◌∷◌, ◌++◌}
use Prim.Native.Nat.{suc}
use lib.ListN.{length, take}
use Rattle.book.specs.Returns.{Book}
use Rattle.built.specs.Calls.{Call, Answer, answer_of, book_after, book_after_all, answers_of}

pub answered_in_turn : (b : Book) (earlier : List Call) (call : Call) (later : List Call)
    → take (suc (length earlier)) (answers_of b (earlier ++ (call ∷ later))) ≡ answers_of b earlier ++ (answer_of (book_after_all b earlier) call ∷ [])
unfolding answers_of book_after_all
answered_in_turn b [] call later = refl
answered_in_turn b (first ∷ earlier) call later =
    ap (λ (answers : List Answer). answer_of b first ∷ answers) (answered_in_turn (book_after b first) earlier call later)
