-- The definitions that the contracts of `arith` cite, and the claims about them.
pub mod Bits
