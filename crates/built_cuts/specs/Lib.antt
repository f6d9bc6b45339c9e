-- What is claimed of cuts in books built by calls, and of search words in every book.
pub mod Claims
pub mod Examples
