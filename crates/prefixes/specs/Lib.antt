-- The definitions that the contracts of `prefixes` and `sparse_dag` cite.
pub mod Edges
