-- `utf8::read_char` meets its contract. Each return is a law of `Reading`: the lead byte's length is known, so a beginning of no row, or a missing tail, leaves
-- nothing to read, and what is read by a whole row is what the bytes spell. Assumes nothing.
use mathlib.Core.Path.{refl, sym, ◌∙◌}
use native.Mathlib.Omega.{arith}
use Rattle.std.proofs.lemmas.Result.{err_from_is_err_and}
use Rattle.utf8.proofs.Bytes.{at_end}
use Rattle.utf8.proofs.Reading.{at_1, not_two, is_two, not_three, no_third, is_three, not_four, no_third_of_four, no_fourth, is_four}
use Rattle.utf8.proofs.read_char.Goals as goal

pub returns-then-s-at : goal.returns-then-s-at
returns-then-s-at c = at_end _ _ c.if-s-at.true

pub returns-then-b0-lt128 : goal.returns-then-b0-lt128
returns-then-b0-lt128 c = rw (c.new.ensures, c.from.ensures) (at_1 _ _ _ refl c.if-s-at.false c.if-b0-lt128.true)

-- ---- two bytes

pub returns-then-not-begins_two : goal.returns-then-not-begins_two
returns-then-not-begins_two c =
    not_two _ _ _ refl c.if-s-at.false _ c.byte_at-b1.ensures c.if-b0-lt128.false c.if-b0-lt224.true
    (sym c.begins_two.ensures ∙ c.if-not-begins_two.true)

pub returns-then-b0-lt224 : goal.returns-then-b0-lt224
returns-then-b0-lt224 c =
    let spelled =
    is_two c.args.s.now c.args.at _ refl c.if-s-at.false _ c.byte_at-b1.ensures c.if-b0-lt128.false c.if-b0-lt224.true
    (sym c.begins_two.ensures ∙ c.if-not-begins_two.false) in
    rw (c.new-then-b0-lt224.ensures, c.from-2.ensures, c.from-3.ensures) (sym spelled.1)

-- ---- three bytes

pub returns-then-not-begins_three : goal.returns-then-not-begins_three
returns-then-not-begins_three c =
    not_three _ _ _ refl c.if-s-at.false _ c.byte_at-b1.ensures c.if-b0-lt224.false c.if-b0-lt240.true
    (sym c.begins_three.ensures ∙ c.if-not-begins_three.true)

pub returns-in_err-c2 : goal.returns-in_err-c2
returns-in_err-c2 c =
    rw (err_from_is_err_and c.from_residual.result c.from_residual.ensures.1).1
    (no_third _ _ _ refl c.if-s-at.false _ c.byte_at-b1.ensures c.if-b0-lt224.false c.if-b0-lt240.true _ c.in_err-c2.ensures)

pub returns-then-b0-lt240 : goal.returns-then-b0-lt240
returns-then-b0-lt240 c =
    let spelled =
    is_three c.args.s.now c.args.at _ refl c.if-s-at.false _ c.byte_at-b1.ensures c.if-b0-lt224.false c.if-b0-lt240.true _
    c.in_ok-c2.ensures (sym c.begins_three.ensures ∙ c.if-not-begins_three.false) in
    rw (c.new-then-b0-lt240.ensures, c.from-2.ensures, c.from-3.ensures) (sym spelled.1)

-- ---- four bytes

pub returns-then-not-begins_four : goal.returns-then-not-begins_four
returns-then-not-begins_four c =
    not_four _ _ _ refl c.if-s-at.false _ c.byte_at-b1.ensures c.if-b0-lt240.false (omega arith)
    (sym c.begins_four.ensures ∙ c.if-not-begins_four.true)

pub returns-in_err-c2-2 : goal.returns-in_err-c2-2
returns-in_err-c2-2 c =
    rw (err_from_is_err_and c.from_residual-in_err-c2-2.result c.from_residual-in_err-c2-2.ensures.1).1
    (no_third_of_four _ _ _ refl c.if-s-at.false _ c.byte_at-b1.ensures c.if-b0-lt240.false (omega arith) _ c.in_err-c2-2.ensures)

pub returns-in_err-c3 : goal.returns-in_err-c3
returns-in_err-c3 c =
    rw (err_from_is_err_and c.from_residual-in_err-c3.result c.from_residual-in_err-c3.ensures.1).1
    (no_fourth _ _ _ refl c.if-s-at.false _ c.byte_at-b1.ensures c.if-b0-lt240.false (omega arith) _ c.in_err-c3.ensures)

pub returns : goal.returns
returns c =
    let spelled =
    is_four c.args.s.now c.args.at _ refl c.if-s-at.false _ c.byte_at-b1.ensures c.if-b0-lt240.false (omega arith) _ _
    c.in_ok-c2-2.ensures c.in_ok-c3.ensures
    (sym c.begins_four.ensures ∙ c.if-not-begins_four.false) in
    rw (c.new-2.ensures, c.from-2.ensures, c.from-3.ensures) (sym spelled.1)
