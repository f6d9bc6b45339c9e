-- The definitions of the crate `route`, and what is claimed of them: the route, its slices, and the claim.
-- Assumes nothing.
pub mod Route
pub mod Slices
pub mod Claims
