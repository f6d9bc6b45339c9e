-- The laws that the proofs of `answer_line` rest on.
pub mod ByKind
