-- `search_words::push_gram` meets its contract: a stretch that is a held word is written, another is not. Assumes nothing.
use mathlib.Core.Path.{sym, ap, ◌∙◌}
use Rattle.route.specs.Slices.{rows_of}
use Rattle.cuts.specs.Tokens.{span, written, held_between}
use Rattle.cuts.specs.Cuts.{put_spans}
use Rattle.cuts.proofs.Sequence.{put_none}
use Rattle.cuts.proofs.Lists.{those_kept, those_left}
use Rattle.search_words.proofs.push_gram.Goals as goal

pub returns-then-word_at : goal.returns-then-word_at
returns-then-word_at c place cs n records logarithms known inside in_block =
    let args = c.args in
    c.emit_span.ensures place cs known inside
    ∙ ap (put_spans place cs (written args.count args.tokens.now))
    (sym (those_kept (held_between (rows_of args.starts.now args.edge_ends.now records logarithms n)) (span args.at args.end)
    (sym (c.word_at.ensures n records logarithms in_block) ∙ c.if-word_at.true)))

pub returns : goal.returns
returns c place cs n records logarithms known inside in_block =
    let args = c.args in
    sym (put_none place cs (written args.count args.tokens.now))
    ∙ ap (put_spans place cs (written args.count args.tokens.now))
    (sym (those_left (held_between (rows_of args.starts.now args.edge_ends.now records logarithms n)) (span args.at args.end)
    (sym (c.word_at.ensures n records logarithms in_block) ∙ c.if-word_at.false)))
