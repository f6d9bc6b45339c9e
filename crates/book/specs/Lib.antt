-- The definitions that the contracts of `book` and of the crates above it cite, one file for each section of document 01.
pub mod Returns
pub mod Enter
pub mod Numbers
pub mod Prefixes
pub mod Areas
