-- The laws that the proofs of `cut_route` rest on: the route's steps, and what tokens bring by the mode.
pub mod Letters
pub mod Routes
pub mod Modes
