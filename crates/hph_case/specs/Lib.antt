pub mod Table
pub mod Opcodes
pub mod Operators
pub mod Imports
pub mod Builtins
pub mod Fatals
