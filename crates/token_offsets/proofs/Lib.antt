-- The proof that a token's offsets count what stands before it: spans within their block, tokens in the area, then the cuts.
pub mod Spans
pub mod Places
pub mod Offsets
