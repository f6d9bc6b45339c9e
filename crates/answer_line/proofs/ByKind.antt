-- A line by what it is read as: a frame is answered by its kind, and any other line by `fe`. Assumes nothing.
use Prim.Native.Nat.{ℕ}
use mathlib.Core.List.{List}
use mathlib.Core.Path.{◌≡◌, refl}
use Rattle.std.specs.Prelude.{Some, None}
use Rattle.book.specs.Returns.{Book}
use Rattle.frames.specs.declared.CutKind.{CutKind}
use Rattle.frames.specs.declared.CutKind.TheVariants.{Plain, All, Search}
use Rattle.frames.specs.declared.Kind.{Kind}
use Rattle.frames.specs.declared.Kind.TheVariants.{Load, Cut}
use Rattle.printing.specs.Answers.{no_frame_line, Put}
use Rattle.frames.specs.Frames.{frame, frame_of}
use Rattle.answers.specs.Answers.{answer_by, answer_of, Answered}

-- a cut leaves the book as it is
stays : (kind : CutKind) (b : Book) (text : List ℕ) → b ≡ (answer_by (Cut kind) b text).book
unfolding answer_by
stays Plain b text = refl
stays All b text = refl
stays Search b text = refl

module _ (b : Book) (line text out after : List ℕ) (at end : ℕ) (kind : Kind) (read : Some (frame kind text) ≡ frame_of line) where
  pub load_answered : kind ≡ Load → (left : Book) → Answered (answer_by Load b text) out at after end left → Answered (answer_of b line) out at after end left
  unfolding answer_of
  load_answered is left answered = rw (← read, is) answered

  pub cut_answered : (cut : CutKind) → kind ≡ Cut cut → Put out at (answer_by (Cut cut) b text).line after end → Answered (answer_of b line) out at after end b
  unfolding answer_of
  cut_answered cut is put = rw (← read, is) (record { put = put; book = stays cut b text })

module _ (b : Book) (line out after : List ℕ) (at end : ℕ) where
  pub no_frame_answered : None ≡ frame_of line → Put out at no_frame_line after end → Answered (answer_of b line) out at after end b
  unfolding answer_of
  no_frame_answered read put = rw (← read) (record { put = put; book = refl })
