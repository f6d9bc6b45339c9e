-- The definitions that the contracts of `classes` cite: what a list of ranges holds, and document 01's classes as such lists.
pub mod Ranges
pub mod WhiteSpace
pub mod Blocks
pub mod Tokens
