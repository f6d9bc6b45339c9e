-- `sheets::zero_place` meets its contract: the line is UTF-8, it has a field, and it has no second one; otherwise there is no place. Assumes nothing.
use native.Mathlib.Omega.{arith}
use Rattle.lines.proofs.Meanings.{has_chars, rest_inside, rest_has_chars}
use Rattle.sheets.proofs.Places.{nowhere_malformed, nowhere_blank, after_word, nowhere_second}
use Rattle.sheets.proofs.zero_place.Goals as goal

pub returns-in_default : goal.returns-in_default
returns-in_default c = nowhere_malformed _ c.in_default.ensures

pub next_field-requires : goal.next_field-requires
next_field-requires c = (omega arith, has_chars _ _ c.in-Ok.ensures)

pub returns-in_err-word : goal.returns-in_err-word
returns-in_err-word c = rw c.from_residual.ensures (nowhere_blank _ _ c.in-Ok.ensures c.in_err-word.ensures)

pub next_field-requires-2 : goal.next_field-requires-2
next_field-requires-2 c =
    (rest_inside _ _ c.in-Ok.ensures _ _ c.in_ok-word.ensures, rest_has_chars _ _ c.in-Ok.ensures _ _ c.in_ok-word.ensures)

pub returns-in-None : goal.returns-in-None
returns-in-None c = after_word _ _ c.in-Ok.ensures _ _ c.in_ok-word.ensures c.in-None.ensures

pub returns-in-Some : goal.returns-in-Some
returns-in-Some c = nowhere_second _ _ c.in-Ok.ensures _ _ c.in_ok-word.ensures _ _ c.in-Some.ensures
