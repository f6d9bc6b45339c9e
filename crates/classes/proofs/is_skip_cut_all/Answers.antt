-- `classes::is_skip_cut_all` meets its contract: the signs that join are those of the `match`, and of all else only ASCII letters and
-- digits join. Assumes nothing.
use Rattle.classes.proofs.Classes.{sign_joins, letter_joins}
use Rattle.classes.proofs.is_skip_cut_all.Goals as goal

pub returns-in-43 : goal.returns-in-43
returns-in-43 c = search sign_joins

pub returns-in_default : goal.returns-in_default
returns-in_default c = search letter_joins
