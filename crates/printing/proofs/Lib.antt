-- The laws by which the functions of `printing` meet their contracts.
pub mod Lines
