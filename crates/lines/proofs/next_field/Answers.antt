-- `lines::next_field` meets its contract: after the white space either the text ends, or a field goes on to the next white space. Assumes nothing.
use Rattle.lines.proofs.Fields.{missing, found, goes_on, chars_of_lem, is_some}
use Rattle.lines.proofs.next_field.Goals as goal

pub returns-then-start-s : goal.returns-then-start-s
returns-then-start-s c = let q = chars_of_lem _ c.requires.1 in
    missing _ _ q.0 q.1 c.requires.0 _ c.skip-start.ensures c.if-start-s.true

pub skip-end-requires : goal.skip-end-requires
skip-end-requires c = let q = chars_of_lem _ c.requires.1 in
    is_some _ _ (goes_on _ _ q.0 q.1 c.requires.0 _ c.skip-start.ensures)

pub returns : goal.returns
returns c = let q = chars_of_lem _ c.requires.1 in
    found _ _ q.0 q.1 c.requires.0 _ _ c.skip-start.ensures c.if-start-s.false
    c.skip-end.ensures
