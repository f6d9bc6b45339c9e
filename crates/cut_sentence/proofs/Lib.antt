-- What is proved of `cut_sentence` and of the calls over it: a call by its tests.
pub mod Wholes
