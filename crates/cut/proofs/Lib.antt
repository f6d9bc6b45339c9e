-- What is proved of `cut`.
pub mod Modes
