-- What is proved of heads and modes as numbers.
pub mod Numbers
