-- `book::is_allowed` meets its contract: a test of the slots' number and of its parity is the definition's of three lengths (`Areas`). Assumes nothing.
use Rattle.book.proofs.Areas.{allowed_coded}
use Rattle.book.proofs.is_allowed.Goals as goal

pub returns : goal.returns
returns c = search allowed_coded
