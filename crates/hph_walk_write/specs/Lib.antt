pub mod Levels
pub mod Writes
pub mod Unsets
