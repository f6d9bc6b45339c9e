-- What the proof of `cut_all_tokens` rests on: one position after another.
pub mod Positions
