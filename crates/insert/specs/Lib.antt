-- The definitions that the contracts of `insert` cite, and what is claimed of them.
pub mod Insert
pub mod Claims
