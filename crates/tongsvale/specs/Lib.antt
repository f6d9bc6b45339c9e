-- The definitions that the contracts of `tongsvale` cite.
pub mod Exports
