-- What the tests before a cut come to.
pub mod Beginning
pub mod Lent
