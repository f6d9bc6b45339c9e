-- `book::cell_frequency` meets its contract. Assumes nothing.
use Rattle.book.proofs.Areas.{cell_frequency_is}
use Rattle.book.proofs.cell_frequency.Goals as goal

pub returns : goal.returns
returns c = search cell_frequency_is
