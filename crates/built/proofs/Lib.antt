-- The proofs about books built by calls, from the store of keys up to the claims.
mod Probes
mod Keys
mod Steps
mod FilterBits
mod Growth
mod NewSteps
mod Insertion
mod Ledgers
mod Lookups
mod Records
mod NewRecords
mod LineWords
mod AllowedSizes
mod Entering
mod EmptyBook
mod Calls
pub mod Claims
