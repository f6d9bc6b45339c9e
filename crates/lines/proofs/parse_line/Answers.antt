-- `lines::parse_line` meets its contract: each return is the case of `line_of` that the answers of the calls before it make. Assumes nothing.
use native.Mathlib.Omega.{arith}
use Rattle.std.proofs.lemmas.Result.{err_from_is_err_and}
use Rattle.lines.proofs.Meanings.{line_malformed, has_chars, line_blank, rest_inside, rest_has_chars, line_word, part, line_bad, line_entry}
use Rattle.lines.proofs.parse_line.Goals as goal

pub returns-in_err-char_count : goal.returns-in_err-char_count
returns-in_err-char_count c =
    let p = err_from_is_err_and c.from_residual.result c.from_residual.ensures.1 in
    rw (p.1, p.2) (line_malformed _ c.in_err-char_count.ensures)

pub next_field-requires : goal.next_field-requires
next_field-requires c = (omega arith, has_chars _ _ c.in_ok-char_count.ensures)

pub returns-in_default : goal.returns-in_default
returns-in_default c = line_blank _ _ c.in_ok-char_count.ensures c.in_default.ensures

pub next_field-requires-2 : goal.next_field-requires-2
next_field-requires-2 c =
    (rest_inside _ _ c.in_ok-char_count.ensures _ _ c.in-Some.ensures, rest_has_chars _ _ c.in_ok-char_count.ensures _ _ c.in-Some.ensures)

pub returns-in_default-next_field : goal.returns-in_default-next_field
returns-in_default-next_field c = line_word _ _ c.in_ok-char_count.ensures _ _ c.in-Some.ensures c.in_default-next_field.ensures

pub slice_bounds-parse_frequency-end : goal.slice_bounds-parse_frequency-end
slice_bounds-parse_frequency-end c =
    omega (arith, part _ _ c.in_ok-char_count.ensures _ _ c.in-Some.ensures _ _ c.in-Some-next_field.ensures)

pub returns-in_err-frequency : goal.returns-in_err-frequency
returns-in_err-frequency c =
    let p = err_from_is_err_and c.from_residual-in_err-frequency.result c.from_residual-in_err-frequency.ensures.1 in
    rw (p.1, p.2) (line_bad _ _ c.in_ok-char_count.ensures _ _ c.in-Some.ensures _ _ c.in-Some-next_field.ensures c.in_err-frequency.ensures)

pub returns : goal.returns
returns c =
    line_entry _ _ c.in_ok-char_count.ensures _ _ c.in-Some.ensures _ _ c.in-Some-next_field.ensures _ c.in_ok-frequency.ensures
