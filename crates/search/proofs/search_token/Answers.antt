-- `search::search_token` meets its contract: the parts, the words of two characters, those of three and the token are put one after the other, up to the
-- first that is stopped. Assumes nothing.
use Rattle.std.specs.Prelude.{Err}
use Rattle.std.proofs.Common.{rules}
use mathlib.Core.Path.{◌≡◌}
use lib.ListN.{take}
use Rattle.route.specs.Slices.{rows_of}
use Rattle.cuts.specs.Tokens.{span, written}
use Rattle.cuts.proofs.Lists.{block_long}
use Rattle.search.proofs.Turns.{parts_refused, pairs_refused, triples_refused, itself}
use Rattle.search.proofs.search_token.Goals as goal
use Rattle.search.proofs.search_token.Goals.{After-from_residual, After-from_residual-in_err-pairs, After-from_residual-in_err-triples}

parts_as : (c : goal.After-from_residual) → c.from_residual.result ≡ Err c.in_err-parts.field-0.0
parts_as c = search rules

pub returns-in_err-parts : goal.returns-in_err-parts
returns-in_err-parts c place n records logarithms inside known =
    let args = c.args in
    rw (parts_as c)
    (parts_refused place (take n args.chars.now) (rows_of args.starts.now args.edge_ends.now records logarithms n) (span args.x args.y)
    (written args.count args.tokens.now) c.emit_parts.result _ (c.emit_parts.ensures place n inside known)
    c.in_err-parts.was)

pairs_as : (c : goal.After-from_residual-in_err-pairs) → c.from_residual-in_err-pairs.result ≡ Err c.in_err-pairs.field-0.0
pairs_as c = search rules

pub returns-in_err-pairs : goal.returns-in_err-pairs
returns-in_err-pairs c place n records logarithms inside known =
    let args = c.args in
    let long = block_long args.chars.now n args.y inside c.requires.x_le_y.1 in
    rw (pairs_as c)
    (pairs_refused place (take n args.chars.now) (rows_of args.starts.now args.edge_ends.now records logarithms n) (span args.x args.y)
    (written args.count args.tokens.now) c.emit_parts.result _ (c.emit_parts.ensures place n inside known)
    c.in_ok-parts.was
    c.emit_words.result _ (c.emit_words.ensures place (take n args.chars.now) n records logarithms known long inside)
    c.in_err-pairs.was)

triples_as : (c : goal.After-from_residual-in_err-triples) → c.from_residual-in_err-triples.result ≡ Err c.in_err-triples.field-0.0
triples_as c = search rules

pub returns-in_err-triples : goal.returns-in_err-triples
returns-in_err-triples c place n records logarithms inside known =
    let args = c.args in
    let long = block_long args.chars.now n args.y inside c.requires.x_le_y.1 in
    rw (triples_as c)
    (triples_refused place (take n args.chars.now) (rows_of args.starts.now args.edge_ends.now records logarithms n) (span args.x args.y)
    (written args.count args.tokens.now) c.emit_parts.result _ (c.emit_parts.ensures place n inside known)
    c.in_ok-parts.was
    c.emit_words.result _ (c.emit_words.ensures place (take n args.chars.now) n records logarithms known long inside)
    c.in_ok-pairs.was
    c.emit_words-2.result _ (c.emit_words-2.ensures place (take n args.chars.now) n records logarithms known long inside)
    c.in_err-triples.was)

pub emit_span-requires : goal.emit_span-requires
emit_span-requires c =
    let pre = c.requires.x_le_y in
    (pre.0, pre.2, pre.4)

pub returns : goal.returns
returns c place n records logarithms inside known =
    let args = c.args in
    let long = block_long args.chars.now n args.y inside c.requires.x_le_y.1 in
    itself place (take n args.chars.now) (rows_of args.starts.now args.edge_ends.now records logarithms n) (span args.x args.y)
    (written args.count args.tokens.now) c.emit_parts.result _ (c.emit_parts.ensures place n inside known)
    c.in_ok-parts.was
    c.emit_words.result _ (c.emit_words.ensures place (take n args.chars.now) n records logarithms known long inside)
    c.in_ok-pairs.was
    c.emit_words-2.result _ (c.emit_words-2.ensures place (take n args.chars.now) n records logarithms known long inside)
    c.in_ok-triples.was
    c.emit_span.result _ (c.emit_span.ensures place (take n args.chars.now) known long)
