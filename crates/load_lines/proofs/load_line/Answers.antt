-- `load_lines::load_line` meets its contract: each case of what the line says is the case of the answer. Assumes nothing.
use Prim.Native.Nat.{◌≤◌}
use mathlib.Core.Path.{◌≡◌, ap, ◌∙◌}
use native.Mathlib.Omega.{arith}
use lib.ListN.{length}
use Rattle.std.specs.Prelude.{Ok, Err, Some}
use Rattle.std.proofs.Common.{rules}
use Rattle.lines.specs.declared.LineError.{LineError}
use Rattle.book.specs.Returns.{refusal_of_line}
use Rattle.load_lines.proofs.Lines.{line_refused, line_blank, word_inside, word_chars, word_short, word_entered}
use Rattle.load_lines.proofs.load_line.Goals as goal
use Rattle.load_lines.proofs.load_line.Goals.{After-from_residual, In-Some}

-- ---- the places of the code: the book and the line are lent, the line is parsed, it has a word, and the logarithm is looked up

module _ (c : goal.In-Some) where
  parsed : c.parse_line.result ≡ Ok (Some c.in-Some.found)
  parsed = c.in_ok-found.was ∙ ap Ok c.in-Some.is

  -- the word is a part of the line
  inside : (c.in-Some.found.word.start ≤ c.in-Some.found.word.end) × (c.in-Some.found.word.end ≤ length c.args.line.now)
  inside = word_inside _ c.parse_line.ensures parsed

pub log_by-logarithm-requires : goal.log_by-logarithm-requires
log_by-logarithm-requires c = c.requires.shift_value.2

pub slice_bounds-load_entry-count : goal.slice_bounds-load_entry-count
slice_bounds-load_entry-count c = (inside (goal.at.slice_bounds-load_entry-count c).In-Some).0

pub slice_bounds-load_entry-start : goal.slice_bounds-load_entry-start
slice_bounds-load_entry-start c = omega (arith, inside (goal.at.slice_bounds-load_entry-start c).In-Some)

pub slice_bounds-load_entry-end : goal.slice_bounds-load_entry-end
slice_bounds-load_entry-end c = omega (arith, inside (goal.at.slice_bounds-load_entry-end c).In-Some)

pub load_entry-requires : goal.load_entry-requires
load_entry-requires c = let says = c.parse_line.ensures in
    let is = parsed (goal.at.load_entry-requires c).In-Some in
    let pre = c.requires in record {
      logarithms_value = pre.logarithms_value;
      shift_value = (
        pre.shift_value.0,
        word_chars _ says is,
        word_short _ says is _ pre.shift_value.1,
        c.log_by-logarithm.ensures,
      );
    }

-- a line that cannot be read, and a blank one
refused : (c : goal.After-from_residual) → (e : LineError) × (c.parse_line.result ≡ Err e) × (c.from_residual.result ≡ Err (refusal_of_line e))
refused c = search rules

pub returns-in_err-found : goal.returns-in_err-found
returns-in_err-found c =
    let (e, told, answers) = refused c in
    rw answers (line_refused _ _ c.parse_line.ensures told)

pub returns-in_default : goal.returns-in_default
returns-in_default c = line_blank _ _ c.parse_line.ensures (c.in_ok-found.was ∙ ap Ok c.in_default.is)

pub returns : goal.returns
returns c = word_entered _ c.parse_line.ensures (parsed (goal.at.returns c).In-Some) _ c.load_entry.ensures
