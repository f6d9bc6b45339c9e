-- `utf8::next_char` meets its contract: of a well-formed text, before its end, the first byte says how many bytes there are (`second_within`,
-- `third_within`, `fourth_within`), and they spell the value (`next_1` to `next_4`). Assumes nothing.
use Rattle.utf8.proofs.Bytes.{second_within, third_within, fourth_within, next_1, next_2, next_3, next_4}
use Rattle.utf8.proofs.next_char.Goals as goal

pub returns-then-b0-lt128 : goal.returns-then-b0-lt128
returns-then-b0-lt128 c = rw c.new.ensures (next_1 _ _ c.requires.0 c.requires.1 _ c.from-b0.ensures c.if-b0-lt128.true)

pub bounds-s-at-2 : goal.bounds-s-at-2
bounds-s-at-2 c = second_within _ _ c.requires.0 c.requires.1 _ c.from-b0.ensures c.if-b0-lt128.false

pub overflow_sub-c1 : goal.overflow_sub-c1
overflow_sub-c1 c =
    (next_2 _ _ c.requires.0 c.requires.1 _ c.from-b0.ensures _ c.from.ensures c.if-b0-lt128.false c.if-b0-lt224.true).0

pub returns-then-b0-lt224 : goal.returns-then-b0-lt224
returns-then-b0-lt224 c =
    rw c.new-then-b0-lt224.ensures
    (next_2 _ _ c.requires.0 c.requires.1 _ c.from-b0.ensures _ c.from.ensures c.if-b0-lt128.false c.if-b0-lt224.true).1

pub bounds-s-at-3 : goal.bounds-s-at-3
bounds-s-at-3 c = third_within _ _ c.requires.0 c.requires.1 _ c.from-b0.ensures c.if-b0-lt224.false

pub overflow_sub-c2 : goal.overflow_sub-c2
overflow_sub-c2 c =
    (next_3 _ _ c.requires.0 c.requires.1 _ c.from-b0.ensures _ c.from.ensures _ c.from-2.ensures c.if-b0-lt224.false c.if-b0-lt240.true).0

pub returns-then-b0-lt240 : goal.returns-then-b0-lt240
returns-then-b0-lt240 c =
    rw c.new-then-b0-lt240.ensures
    (next_3 _ _ c.requires.0 c.requires.1 _ c.from-b0.ensures _ c.from.ensures _ c.from-2.ensures c.if-b0-lt224.false c.if-b0-lt240.true).1

pub bounds-s-at-4 : goal.bounds-s-at-4
bounds-s-at-4 c = fourth_within _ _ c.requires.0 c.requires.1 _ c.from-b0.ensures c.if-b0-lt240.false

pub overflow_sub-c3 : goal.overflow_sub-c3
overflow_sub-c3 c =
    (next_4 _ _ c.requires.0 c.requires.1 _ c.from-b0.ensures _ c.from.ensures _ c.from-2.ensures _ c.from-3.ensures c.if-b0-lt240.false).0

pub returns : goal.returns
returns c =
    rw c.new-2.ensures
    (next_4 _ _ c.requires.0 c.requires.1 _ c.from-b0.ensures _ c.from.ensures _ c.from-2.ensures _ c.from-3.ensures c.if-b0-lt240.false).1
