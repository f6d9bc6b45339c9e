-- The definitions that the contracts of `sentence` cite.
pub mod Sizes
