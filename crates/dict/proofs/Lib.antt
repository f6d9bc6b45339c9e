-- The laws that the proof of `load_dict` cites.
pub mod Loads
