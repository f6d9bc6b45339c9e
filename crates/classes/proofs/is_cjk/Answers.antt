-- `classes::is_cjk` meets its contract: Han is the main block or an extension. Assumes nothing.
use Rattle.classes.proofs.Classes.{han_main_lem, han_extension_lem}
use Rattle.classes.proofs.is_cjk.Goals as goal

pub returns-then-is_cjk_main : goal.returns-then-is_cjk_main
returns-then-is_cjk_main c = search han_main_lem

pub returns-else-is_cjk_main : goal.returns-else-is_cjk_main
returns-else-is_cjk_main c = search han_extension_lem
