-- The proofs of the claims of `specs/`.
-- Assumes nothing.
pub mod Exact
pub mod Order
pub mod Steps
pub mod Paths
pub mod TotalZero
pub mod Ties
