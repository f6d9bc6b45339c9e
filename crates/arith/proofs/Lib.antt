-- The proofs of `arith` that more than one function or another crate uses.
pub mod Bits
pub mod SetBit
