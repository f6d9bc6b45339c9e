-- The laws that the proofs of `unmatched` rest on.
pub mod Joining
pub mod Unmatched
