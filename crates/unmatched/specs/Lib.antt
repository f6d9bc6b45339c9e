-- The definition that the contracts of `unmatched` cite.
pub mod Joining
