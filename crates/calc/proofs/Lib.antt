-- The laws that the functions' proofs cite.
pub mod Edges
pub mod Positions
