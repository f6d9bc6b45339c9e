-- The proof of demand 3: what cuts of one sentence by two vocabularies have in common, what ran by its contracts, then the two books.
pub mod Alike
pub mod Undamaged
pub mod Turns
pub mod Runs
pub mod Demand3
pub mod Instances
pub mod Examples
