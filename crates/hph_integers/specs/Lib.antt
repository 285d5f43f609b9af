pub mod Accesses
pub mod Writes
