-- Proofs of the claims, and the laws that the functions' proofs, here and in the crates above, cite.
pub mod Places
pub mod Characters
