-- Proofs of the claims, and the laws that the functions' proofs, here and in the crates above, cite.
pub mod SlotCounts
pub mod Probes
pub mod Damage
pub mod Steps
pub mod Packed
