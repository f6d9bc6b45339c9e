-- The definitions that the contracts of `answers` cite, and document 01's example.
pub mod Answers
pub mod Example
