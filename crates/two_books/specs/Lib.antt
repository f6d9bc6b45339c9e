-- Demand 3, and the definitions that it is stated by.
pub mod Runs
pub mod HeldWords
pub mod Demand3
