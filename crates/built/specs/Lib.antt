-- Books built by calls: the ledger, lists of calls, what is claimed of the books that they leave, and the invariant that proves it.
pub mod Ledger
pub mod Calls
pub mod Built
pub mod Claims
