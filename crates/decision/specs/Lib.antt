-- The definitions that the contracts of `decision` cite.
pub mod Texts
