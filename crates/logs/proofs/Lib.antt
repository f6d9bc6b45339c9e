-- The proofs of the crate `logs` beside those of its functions: the entries of a table that passes the test.
-- Assumes nothing.
pub mod Places
