pub mod Bytes
pub mod Signs
pub mod Quotients
pub mod Shifts
