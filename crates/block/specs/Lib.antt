-- The definitions that the contracts of `block` cite.
pub mod Plans
