-- The cuts of document 01, one file for each of its sections.
pub mod Blocks
pub mod Edges
pub mod Tokens
pub mod Cuts
pub mod Slices
pub mod Examples
