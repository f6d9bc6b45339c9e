-- The laws that the function's proof cites: one block after another.
pub mod Blocks
