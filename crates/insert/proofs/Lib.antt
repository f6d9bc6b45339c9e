-- Proofs of the claims, and the laws that the functions' proofs, here and in the crates above, cite.
pub mod Sizes
pub mod Words
pub mod NewSteps
pub mod Lengths
pub mod Marks
pub mod Extensions
