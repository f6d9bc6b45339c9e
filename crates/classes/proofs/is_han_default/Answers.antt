-- `classes::is_han_default` meets its contract, by a law for each of its four ways: the main block, an ASCII letter or digit, a sign or
-- another ASCII character, an extension or what is left. Assumes nothing.
use Rattle.classes.proofs.Classes.{cut_main, cut_letter, cut_sign_lem, cut_extension}
use Rattle.classes.proofs.is_han_default.Goals as goal

pub returns-then-is_cjk_main : goal.returns-then-is_cjk_main
returns-then-is_cjk_main c = search cut_main

pub returns-then-is_ascii_alphanumeric : goal.returns-then-is_ascii_alphanumeric
returns-then-is_ascii_alphanumeric c = search cut_letter

pub returns-else-is_ascii_alphanumeric : goal.returns-else-is_ascii_alphanumeric
returns-else-is_ascii_alphanumeric c = search cut_sign_lem

pub returns-else-c-lt128 : goal.returns-else-c-lt128
returns-else-c-lt128 c = search cut_extension
