-- `tokens::put_token` meets its contract: three pairs, one behind the other, of which the second and the third are taken out of the places. Assumes nothing.
use Prim.Native.Nat.{◌*◌}
use Rattle.tokens.proofs.Places.{token_written}
use Rattle.tokens.proofs.put_token.Goals as goal

pub returns : goal.returns
returns c =
    let args = c.args in
    token_written args.tokens.now (args.count * 6) args.base args.x args.y args.offsets.now c.put_pair.ensures
    c.byte_offset.ensures c.byte_offset-2.ensures c.put_pair-2.ensures
    c.utf16_offset.ensures c.utf16_offset-2.ensures c.put_pair-3.ensures
