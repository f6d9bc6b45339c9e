-- `book::is_head_damaged` meets its contract: it is the definition, test by test; once the slots used are within the slots, their product with 8 fits.
-- Assumes nothing.
use borrow.Author.Tests.{lt-ltb, le-ltb}
use Rattle.book.specs.Returns.{head_damaged}
use Rattle.book.proofs.is_head_damaged.Goals as goal

pub returns-then-slots-head : goal.returns-then-slots-head
unfolding head_damaged
returns-then-slots-head c = rw (lt-ltb _ _ c.if-slots-head.true)

pub returns : goal.returns
unfolding head_damaged
returns c = rw (le-ltb _ _ c.if-slots-head.false)
