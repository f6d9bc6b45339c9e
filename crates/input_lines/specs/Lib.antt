-- The definitions that the contract of `take_line` cites, and the claims about them.
pub mod Input
pub mod Claims
