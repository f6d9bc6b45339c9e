-- The laws that the proof of `blocks` rests on: a sentence by its blocks.
pub mod Sentences
