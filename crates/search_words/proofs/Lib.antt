-- The laws that the proofs of `search_words` rest on: the held words in a token, the loop over them, and that ends rise.
pub mod Words
pub mod Rising
pub mod Turns
