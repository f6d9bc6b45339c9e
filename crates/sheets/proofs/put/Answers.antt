-- `sheets::put` meets its contract. Assumes nothing.
use Rattle.sheets.proofs.Writing.{put_whole}
use Rattle.sheets.proofs.put.Goals as goal

pub returns : goal.returns
returns c = put_whole _ _ _ _ c.requires c.copy_from_slice.ensures.after
