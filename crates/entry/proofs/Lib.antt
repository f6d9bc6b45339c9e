-- The laws that the functions' proofs cite.
pub mod Bounds
pub mod Entering
pub mod Lines
