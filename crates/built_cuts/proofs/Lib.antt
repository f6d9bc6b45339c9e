-- The proofs of the claims on cuts in books built by calls, and on search words.
mod Rows
pub mod Routes
pub mod Ties
pub mod Sentences
pub mod SearchWords
pub mod Examples
