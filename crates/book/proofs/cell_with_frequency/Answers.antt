-- `book::cell_with_frequency` meets its contract: it computes what `cell_with_frequency` says, and the high half leaves room for the frequency. Assumes nothing.
use Rattle.book.proofs.Areas.{cell_with_frequency_is}
use Rattle.book.proofs.cell_with_frequency.Goals as goal

pub returns : goal.returns
returns c = search cell_with_frequency_is
