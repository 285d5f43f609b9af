pub mod Kinds
pub mod Memory
pub mod Numbers
pub mod Writes
