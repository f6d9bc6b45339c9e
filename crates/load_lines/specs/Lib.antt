-- The definitions that the contracts of `load_lines` cite beside those of `book`.
pub mod Answers
