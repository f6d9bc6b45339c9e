-- The definitions that the contracts of `cut_all` cite.
pub mod Areas
