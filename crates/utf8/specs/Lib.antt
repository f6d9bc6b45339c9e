-- The definitions that the contracts of `utf8` cite, and what is claimed of them.
pub mod Utf16
pub mod Characters
pub mod Rows
pub mod Text
pub mod Encoding
pub mod Claims
