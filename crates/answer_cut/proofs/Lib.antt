-- The laws that the proof of `answer_cut` rests on.
pub mod ByKind
