-- The definitions that the contracts of `numbers` cite.
pub mod Numbers
