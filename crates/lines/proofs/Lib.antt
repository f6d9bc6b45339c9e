-- The laws that the functions' proofs, here and in the crates above, cite.
pub mod Ends
pub mod Numbers
pub mod Ascii
pub mod Fields
pub mod Meanings
