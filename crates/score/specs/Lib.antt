-- The definitions of the crate `score`, and what is claimed of them: scores, doubles beyond scores, and the logarithm.
-- Assumes nothing.
pub mod Scores
pub mod Undefined
pub mod Logarithm
