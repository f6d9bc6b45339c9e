-- `tokens::put_pair` meets its contract: two writes one after the other, which keep the area's length. Assumes nothing.
use native.Mathlib.Omega.{arith}
use lib.ListN.{length-set}
use Rattle.tokens.proofs.Places.{two_writes}
use Rattle.tokens.proofs.put_pair.Goals as goal

pub bounds-tokens-at-2 : goal.bounds-tokens-at-2
bounds-tokens-at-2 c = simp length-set (omega arith)

pub returns : goal.returns
returns c = two_writes c.args.tokens.now c.args.at c.args.start c.args.end
