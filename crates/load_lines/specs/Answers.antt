-- A load from a position of its text on.
-- Assumes nothing.
use Rattle.std.specs.Prelude.{ℕ, List, drop}
use Rattle.lines.specs.Lines.{lines_of}
use Rattle.book.specs.Returns.{Book}
use Rattle.book.specs.Enter.{LoadAnswer, load_lines}

-- the lines of a text from a position on, after so many lines
unfoldable pub lines_loaded : Book → ℕ → List ℕ → ℕ → LoadAnswer
lines_loaded b n text at = load_lines b n (lines_of (drop at text))
