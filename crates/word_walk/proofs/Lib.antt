-- The laws that the functions' proofs cite.
pub mod Lookups
pub mod NewSteps
pub mod Rooms
