-- The laws that the functions' proofs, here and in the crates above, cite.
pub mod Classes
pub mod Blocks
pub mod Recordings
