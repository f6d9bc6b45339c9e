-- The definition that the contract of `test_word` cites beside those of `book`.
pub mod Tests
