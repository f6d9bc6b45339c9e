-- The definitions that the contracts of `runs` cite.
pub mod Runs
