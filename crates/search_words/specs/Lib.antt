-- The definitions that the contracts of `search_words` cite.
pub mod Rising
