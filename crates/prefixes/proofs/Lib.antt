-- The proofs of the crate `prefixes`: of the code's functions, each in a folder of its name, with their laws. Assumes nothing.
pub mod Slices
pub mod Walks
