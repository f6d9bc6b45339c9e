-- The laws by which the functions of `frames` meet their contracts.
pub mod Bytes
