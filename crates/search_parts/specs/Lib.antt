-- The definitions that the contracts of `search_parts` cite.
pub mod Parts
