-- Proofs of the claims, and the laws that the functions' proofs, here and in the crates above, cite.
pub mod Utf16
pub mod Encodings
pub mod Texts
pub mod Rows
pub mod Table
pub mod Bytes
pub mod Reading
pub mod Positions
