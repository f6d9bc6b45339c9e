-- What is claimed of the offsets of tokens.
pub mod Claims
