-- The laws that the proofs of `tokens` rest on, and those that the loops over it share: where a run ends, the spans of runs, and a turn that writes spans.
pub mod Places
pub mod Turns
pub mod Ends
pub mod Runs
