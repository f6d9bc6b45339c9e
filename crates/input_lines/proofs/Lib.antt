-- The laws by which `take_line` meets its contract, and the proofs of the claims.
pub mod Input
pub mod Claims
