-- The laws that the proof of `search` rests on: what tokens bring, and the calls that write it.
pub mod Brought
pub mod Turns
