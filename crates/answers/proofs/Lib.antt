-- What a line's answer comes to, by the calls below, and the proof of document 01's example.
pub mod Answers
pub mod Example
