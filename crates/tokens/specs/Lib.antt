-- The definitions that contracts over `tokens` cite.
pub mod Places
pub mod Runs
