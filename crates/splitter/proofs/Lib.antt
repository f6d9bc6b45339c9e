-- The laws that the functions' proofs, here and in the crates above, cite.
pub mod Sentences
pub mod Cutting
pub mod Turns
pub mod Through
pub mod OneKind
