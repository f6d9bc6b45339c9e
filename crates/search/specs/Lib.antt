-- The definitions that the contracts of `search` cite.
pub mod Brought
