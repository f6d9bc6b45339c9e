-- `search_parts::emit_part` meets its contract: a part with a letter whose offsets are 2 or more apart is written, another is not. Assumes nothing.
use mathlib.Core.Path.{sym, ap, ◌∙◌}
use native.Mathlib.Omega.{arith}
use Rattle.cuts.specs.Tokens.{written}
use Rattle.cuts.specs.Cuts.{put_spans}
use Rattle.cuts.proofs.Sequence.{put_none}
use Rattle.search_parts.proofs.Parts.{taken, too_short, no_letter}
use Rattle.search_parts.proofs.emit_part.Goals as goal

pub overflow_cast-start : goal.overflow_cast-start
overflow_cast-start c = omega (arith, c.byte_offset-start.ensures)

pub overflow_add-start : goal.overflow_add-start
overflow_add-start c = omega (arith, c.byte_offset-start.ensures)

pub overflow_cast-byte_offset : goal.overflow_cast-byte_offset
overflow_cast-byte_offset c = omega (arith, c.byte_offset.ensures)

pub returns-then-start-byte_offset : goal.returns-then-start-byte_offset
returns-then-start-byte_offset c place cs known inside letters =
    let args = c.args in
    c.emit_span.ensures place cs known inside
    ∙ ap (put_spans place cs (written args.count args.tokens.now))
    (sym (taken place args.base cs args.offsets.now args.from args.part.end _ known c.requires.0 inside letters
    c.if-part.true (omega (arith, c.if-start-byte_offset.true, c.byte_offset-start.ensures, c.byte_offset.ensures))))

pub returns-else-start-byte_offset : goal.returns-else-start-byte_offset
returns-else-start-byte_offset c place cs known inside letters =
    let args = c.args in
    sym (put_none place cs (written args.count args.tokens.now))
    ∙ ap (put_spans place cs (written args.count args.tokens.now))
    (sym (too_short place args.base cs args.offsets.now args.from args.part.end _ known c.requires.0 inside letters
    (omega (arith, c.if-start-byte_offset.false, c.byte_offset-start.ensures, c.byte_offset.ensures))))

pub returns-else-part : goal.returns-else-part
returns-else-part c place cs known inside letters =
    let args = c.args in
    sym (put_none place cs (written args.count args.tokens.now))
    ∙ ap (put_spans place cs (written args.count args.tokens.now))
    (sym (no_letter place args.base cs args.offsets.now args.from args.part.end _ known c.requires.0 inside letters c.if-part.false))
