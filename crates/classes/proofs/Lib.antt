-- The laws by which the functions of `classes` are proved.
pub mod Ranges
mod Classes
