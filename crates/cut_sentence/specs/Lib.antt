-- The definitions that the contracts of `cut_sentence` and of the calls over it cite.
pub mod Areas
