-- `cut_route::emit_token` meets its contract: by the mode the token itself, or what search brings of it. Assumes nothing.
use borrow.Author.Rules.{rules}
use lib.ListN.{take}
use Rattle.route.specs.Slices.{rows_of}
use Rattle.cuts.specs.Tokens.{span}
use Rattle.cuts.proofs.Lists.{block_long}
use Rattle.cut_route.proofs.Modes.{token_default, token_search}
use Rattle.cut_route.proofs.emit_token.Goals as goal

pub returns-in-Default : goal.returns-in-Default
returns-in-Default c place n records logarithms inside known =
    let cs = take n c.args.chars.now in
    let long = block_long c.args.chars.now n c.args.y inside c.requires.x_le_y.1 in
    rw (token_default cs (rows_of c.args.starts.now c.args.edge_ends.now records logarithms n)
    (span c.args.x c.args.y) c.in-Default.is) (search rules)

pub returns-in-Search : goal.returns-in-Search
returns-in-Search c place n records logarithms inside known =
    let cs = take n c.args.chars.now in
    rw (token_search cs (rows_of c.args.starts.now c.args.edge_ends.now records logarithms n)
    (span c.args.x c.args.y) c.in-Search.is) (search rules)
