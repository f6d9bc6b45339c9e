-- The definitions that the contracts of `trie` and of the crates above it cite, and what is claimed of them.
pub mod Trie
pub mod Tables
pub mod SlotCounts
pub mod Claims
