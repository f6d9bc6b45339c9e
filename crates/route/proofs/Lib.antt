-- The proofs of the crate `route`: of the code's function, with its laws, and of the claims of `specs/`.
-- Assumes nothing.
pub mod Choices
pub mod Words
pub mod Forward
