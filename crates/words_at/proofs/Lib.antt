-- What the proof of `words_at` rests on: the walk from a position.
pub mod Walks
