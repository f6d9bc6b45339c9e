-- The definition that the contract of `words_at` cites.
pub mod Walks
