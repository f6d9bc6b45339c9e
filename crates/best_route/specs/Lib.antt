-- The paths that the route is compared with, and the claims.
-- Assumes nothing.
pub mod Paths
pub mod Claims
pub mod Ties
