-- What the proof of `cut_all` rests on: the call by its tests.
pub mod Sentences
