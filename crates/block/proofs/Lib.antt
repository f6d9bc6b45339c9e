-- The laws that the proof of `block` rests on: a block by its parts.
pub mod Blocks
