-- What is proved of `cut_for_search`.
pub mod Modes
