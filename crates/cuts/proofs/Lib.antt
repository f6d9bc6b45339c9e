-- What is proved of the definitions of the cuts.
pub mod Examples
pub mod Sequence
pub mod Lists
pub mod Offsets
pub mod Walks
