-- The laws that the functions' proofs, here and in the crates above, cite.
pub mod Outcomes
pub mod Numbers
pub mod Sizes
pub mod Decisions
pub mod Held
pub mod Areas
