-- A frame that leaves the book as it is, by its kind, and what is no frame: what is answered. Assumes nothing.
use Rattle.std.specs.Prelude.{Option, Some, None}
use Prim.Native.Nat.{ℕ}
use mathlib.Core.List.{List}
use mathlib.Core.Path.{◌≡◌}
use Rattle.book.specs.Returns.{Book}
use Rattle.cuts.specs.declared.TokenizeMode.TheVariants.{Default, Search}
use Rattle.cuts.specs.Cuts.{tokenize_of, cut_all_of}
use Rattle.frames.specs.declared.CutKind.{CutKind}
use Rattle.frames.specs.declared.CutKind.TheVariants.{Plain, All, Search as SearchKind}
use Rattle.printing.specs.Answers.{no_frame_line, Put}
use Rattle.answers.specs.Answers.{work_length, edge_length, no_tokens, cut_line, answer_by, answer_cut_by}

module _ (b : Book) (text out after : List ℕ) (at end : ℕ) (kind : Option CutKind) where
  pub cut_answered : {k : CutKind} → kind ≡ Some k → k ≡ Plain → Put out at (cut_line (tokenize_of Default b work_length edge_length no_tokens text)) after end
      → Put out at (answer_cut_by kind b text).line after end
  unfolding answer_by tokenize_of
  cut_answered asked is put = rw (asked, is) put

  pub cut_all_answered : {k : CutKind} → kind ≡ Some k → k ≡ All → Put out at (cut_line (cut_all_of b work_length no_tokens text)) after end
      → Put out at (answer_cut_by kind b text).line after end
  unfolding answer_by
  cut_all_answered asked is put = rw (asked, is) put

  pub search_answered : {k : CutKind} → kind ≡ Some k → k ≡ SearchKind → Put out at (cut_line (tokenize_of Search b work_length edge_length no_tokens text)) after end
      → Put out at (answer_cut_by kind b text).line after end
  unfolding answer_by tokenize_of
  search_answered asked is put = rw (asked, is) put

  pub no_frame_answered : kind ≡ None → Put out at no_frame_line after end → Put out at (answer_cut_by kind b text).line after end
  no_frame_answered is put = rw is put
