-- What the program `cutlines` answers to a line: document 01, "Examples by book", "Program `cutlines`". What a frame is and how an answer looks is in
-- `frames/specs/Frames.antt` and `printing/specs/Answers.antt`; here is which call a frame asks for, in which areas, and what of its answer is printed.
-- Assumes nothing.
use Rattle.std.specs.Prelude.{ℕ, ◌+◌, ◌*◌, ◌≤◌, List, [], ◌≡◌, length, replicate, take, Option, Some, None}
use Rattle.book.specs.Returns.{Book, number_of, empty_book}
use Rattle.book.specs.Enter.{LoadAnswer, load_of}
use Rattle.cuts.specs.Tokens.{token_width}
use Rattle.cuts.specs.Cuts.{CutAnswer, cut_of, cut_all_of, cut_for_search_of}
use Rattle.frames.specs.declared.Kind.{Kind}
use Rattle.frames.specs.declared.Kind.TheVariants.{Load, Cut}
use Rattle.frames.specs.declared.CutKind.{CutKind}
use Rattle.frames.specs.declared.CutKind.TheVariants.{Plain, All, Search}
use Rattle.printing.specs.Answers.{line_of, no_frame_line, Put}
use Rattle.frames.specs.Frames.{Frame, frame_of}

-- ---- "It lends 256 root entries, 1,024 slots, 256 records, 1,025 work, 1,024 edge, 512 token places."

abbrev pub start_book : Book
start_book = empty_book 256 1024 256

abbrev pub work_length : ℕ
work_length = 1025

abbrev pub edge_length : ℕ
edge_length = 1024

abbrev pub places : ℕ
places = 512

-- the token area before each cut
abbrev pub no_tokens : List ℕ
no_tokens = replicate (places * token_width) 0

-- ---- the line of what a call answers

-- "the returned number .., line"
abbrev pub load_line : LoadAnswer → List ℕ
load_line a = line_of (number_of a.outcome) a.line []

-- "the returned number .., token count .., then per token" its numbers, of the tokens that were written
unfoldable pub cut_line : CutAnswer → List ℕ
cut_line a = line_of (number_of a.outcome) a.written.count (take (a.written.count * token_width) a.written.area)

-- the numbers that so many tokens take in the token area, which has no more than it has
abbrev pub NumbersOf : ℕ → ℕ → Type 0
NumbersOf count n = (n ≤ places * token_width) × ((area : List ℕ) → length area ≡ places * token_width → take n area ≡ take (count * token_width) area)

-- the bytes of the longest line: seven, and four for each number of each token
abbrev pub longest_answer : ℕ
longest_answer = 7 + 4 * (places * token_width)

-- ---- what is answered to a line: a line, and the book afterwards

pub record Answer : Type 0 where
  pub line : List ℕ
  pub book : Book

abbrev pub answer : List ℕ → Book → Answer
answer line book = record { line = line; book = book }

unfoldable pub answer_by : Kind → Book → List ℕ → Answer
answer_by Load b text = answer (load_line (load_of b text)) (load_of b text).book
answer_by (Cut Plain) b text = answer (cut_line (cut_of b work_length edge_length no_tokens text)) b
answer_by (Cut All) b text = answer (cut_line (cut_all_of b work_length no_tokens text)) b
answer_by (Cut Search) b text = answer (cut_line (cut_for_search_of b work_length edge_length no_tokens text)) b

-- a frame is answered by its kind, and any other line by `fe`
abbrev pub answer_to : Option Frame → Book → Answer
answer_to (Some f) b = answer_by f.kind b f.text
answer_to None b = answer no_frame_line b

-- a frame that asks for a cut, and what is no frame
abbrev pub answer_cut_by : Option CutKind → Book → List ℕ → Answer
answer_cut_by (Some kind) b text = answer_by (Cut kind) b text
answer_cut_by None b text = answer no_frame_line b

unfoldable pub answer_of : Book → List ℕ → Answer
answer_of b line = answer_to (frame_of line) b

-- the same of what is written, and of the book that is left
pub record Answered (a : Answer) (before : List ℕ) (at : ℕ) (after : List ℕ) (end : ℕ) (left : Book) : Type 0 where
  pub put : Put before at a.line after end
  pub book : left ≡ a.book
