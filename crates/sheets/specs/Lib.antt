-- The definitions that the contracts of `sheets` cite, the rule that they keep for old sheets, and what is claimed of them.
pub mod Filled
pub mod OldRule
pub mod Claims
pub mod Examples
