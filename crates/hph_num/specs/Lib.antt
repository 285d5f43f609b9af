pub mod Range
pub mod Arithmetic
pub mod Shifts
