-- Document 01's example of `cutlines`, with document 02's third pair of offsets: input `01616220310a`, `0261626321` prints `000001` and
-- `000003000000020000000200000002000200030002000300020003000300040003000400030004`.
-- The texts are ASCII. Proof: `proofs/Example.antt`, by computation. Assumes nothing.
use Rattle.std.specs.Prelude.{ℕ, List, [], ◌∷◌, ◌≡◌}
use Rattle.answers.specs.Answers.{start_book, answer_of}

abbrev pub first_frame : List ℕ
first_frame =
    48 ∷ 49 ∷ 54 ∷ 49 ∷ 54 ∷ 50 ∷ 50 ∷ 48 ∷ 51 ∷ 49 ∷ 48 ∷ 97 ∷ []

abbrev pub first_answer : List ℕ
first_answer =
    48 ∷ 48 ∷ 48 ∷ 48 ∷ 48 ∷ 49 ∷ 10 ∷ []

abbrev pub second_frame : List ℕ
second_frame =
    48 ∷ 50 ∷ 54 ∷ 49 ∷ 54 ∷ 50 ∷ 54 ∷ 51 ∷ 50 ∷ 49 ∷ []

abbrev pub second_answer : List ℕ
second_answer =
    48 ∷ 48 ∷ 48 ∷ 48 ∷ 48 ∷ 51 ∷
    48 ∷ 48 ∷ 48 ∷ 48 ∷ 48 ∷ 48 ∷ 48 ∷ 50 ∷ 48 ∷ 48 ∷ 48 ∷ 48 ∷ 48 ∷ 48 ∷ 48 ∷ 50 ∷ 48 ∷ 48 ∷ 48 ∷ 48 ∷ 48 ∷ 48 ∷ 48 ∷ 50 ∷
    48 ∷ 48 ∷ 48 ∷ 50 ∷ 48 ∷ 48 ∷ 48 ∷ 51 ∷ 48 ∷ 48 ∷ 48 ∷ 50 ∷ 48 ∷ 48 ∷ 48 ∷ 51 ∷ 48 ∷ 48 ∷ 48 ∷ 50 ∷ 48 ∷ 48 ∷ 48 ∷ 51 ∷
    48 ∷ 48 ∷ 48 ∷ 51 ∷ 48 ∷ 48 ∷ 48 ∷ 52 ∷ 48 ∷ 48 ∷ 48 ∷ 51 ∷ 48 ∷ 48 ∷ 48 ∷ 52 ∷ 48 ∷ 48 ∷ 48 ∷ 51 ∷ 48 ∷ 48 ∷ 48 ∷ 52 ∷ 10 ∷ []

-- the second frame gets the book that the first one left
abbrev pub ExampleFrames : Type 0
ExampleFrames = ((answer_of start_book first_frame).line ≡ first_answer) × ((answer_of (answer_of start_book first_frame).book second_frame).line ≡ second_answer)
