-- The definitions that the contracts of `walk` cite, and what is claimed of them.
pub mod Walk
pub mod Claims
