-- The definitions that the contracts of `cut_route` cite.
pub mod Routes
