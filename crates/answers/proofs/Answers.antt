-- The line of each call's answer, by what the call answers and what is written of it. Assumes nothing.
use Prim.Native.Nat.{ℕ, ◌+◌, ◌*◌, ◌≤◌}
use mathlib.Core.List.{List, []}
use mathlib.Core.Path.{◌≡◌, ap}
use native.Mathlib.Omega.{arith}
use lib.ListN.{length, take, length-take}
use Rattle.book.specs.Returns.{Book, number_of}
use Rattle.book.specs.Enter.{LoadAnswer, load_of}
use Rattle.cuts.specs.Tokens.{token_width}
use Rattle.cuts.specs.Cuts.{CutAnswer}
use Rattle.frames.specs.declared.Kind.TheVariants.{Load}
use Rattle.printing.specs.Answers.{line_of, Put}
use Rattle.answers.specs.Answers.{places, NumbersOf, cut_line, longest_answer, answer_by, Answered}

-- a cut's answer, written with its number, its count and the numbers of its tokens
pub cut_put : (a : CutAnswer) (out after : List ℕ) (at end number n : ℕ) → number ≡ number_of a.outcome → NumbersOf a.written.count n
    → length a.written.area ≡ places * token_width
    → Put out at (line_of number a.written.count (take n a.written.area)) after end → Put out at (cut_line a) after end
unfolding cut_line
cut_put a out after at end number n is numbers long put = rw (← is, ← numbers.1 a.written.area long) put

-- and it is no longer than the longest answer
pub cut_within : (end at n : ℕ) (area : List ℕ) → end ≡ at + 7 + 4 * length (take n area) → n ≤ places * token_width → end ≤ at + longest_answer
cut_within end at n area e few = omega (arith, length-take n area)

-- the same answer by its definition
pub put_by : (a b : CutAnswer) → a ≡ b → (out after : List ℕ) (at end : ℕ) → Put out at (cut_line a) after end → Put out at (cut_line b) after end
put_by a b e out after at end put = rw (← e) put

-- ---- a load: the book is the one that the call leaves

pub load_put : (b : Book) (text : List ℕ) (a : LoadAnswer) → a ≡ load_of b text → (out after : List ℕ) (at end number : ℕ) → number ≡ number_of a.outcome
    → Put out at (line_of number a.line []) after end → Answered (answer_by Load b text) out at after end a.book
unfolding answer_by
load_put b text a e out after at end number is put = record { put = rw (← e, ← is) put; book = ap (λ (x : LoadAnswer). x.book) e }
