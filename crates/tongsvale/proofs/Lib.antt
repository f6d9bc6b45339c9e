-- What the exports come to, by the calls below them.
pub mod Exports
