-- What an addition is, by the answers of its tests and of entering the word.
pub mod Additions
