-- The tests of a word, and what a lookup is by their answer.
pub mod Tests
pub mod Lookups
