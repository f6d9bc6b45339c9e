-- The laws that the functions' proofs, here and in the crate above, cite.
pub mod Empties
