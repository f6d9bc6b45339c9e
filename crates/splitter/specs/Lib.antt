-- The definitions that the contracts of `splitter` cite, and what is claimed of them.
pub mod Turns
