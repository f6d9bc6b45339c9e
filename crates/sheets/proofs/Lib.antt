-- The laws that the functions' proofs cite, and the proofs of the claims.
pub mod Fields
pub mod Lines
pub mod Texts
pub mod Places
pub mod Writing
pub mod Claims
pub mod Examples
