-- The definitions of the crate `logs`, and what is claimed of them: the table of logarithms.
-- Assumes nothing.
pub mod Table
