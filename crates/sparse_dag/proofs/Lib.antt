-- The laws that the function's proof cites.
pub mod Blocks
