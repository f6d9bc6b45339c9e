-- The laws that the proofs of `search_parts` rest on: the parts of a token, and the loop over them.
pub mod Parts
pub mod Turns
