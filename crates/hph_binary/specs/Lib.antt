pub mod Memory
pub mod Operands
