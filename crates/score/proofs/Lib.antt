-- The proofs of the crate `score`: of the code's functions, each in a folder of its name, and of the claims of `specs/`.
-- Assumes nothing.
pub mod Tests
pub mod Squarings
pub mod HighestOne
pub mod Turns
pub mod Logarithm
pub mod Powers
pub mod Bound
pub mod Fractions
pub mod Whole
pub mod Scores
pub mod Sizes
pub mod Undefined
