-- `tokens::emit_span` meets its contract: where there is a place the token of the span is written, and where there is none nothing is. Assumes nothing.
use native.Mathlib.Omega.{arith}
use Rattle.tokens.proofs.Places.{emitted, no_place}
use Rattle.tokens.proofs.emit_span.Goals as goal

pub returns-then-count-tokens : goal.returns-then-count-tokens
returns-then-count-tokens c place chars known inside =
    let args = c.args in
    emitted place args.base args.x args.y args.count chars args.offsets.now args.tokens.now _
    (omega (arith, c.if-count-tokens.true)) c.put_token.ensures c.requires.0 known inside

pub returns : goal.returns
returns c place chars known inside =
    let args = c.args in
    no_place place args.base args.x args.y args.count chars args.offsets.now args.tokens.now (omega (arith, c.if-count-tokens.false))
