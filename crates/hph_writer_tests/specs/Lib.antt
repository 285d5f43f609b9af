pub mod Modules
pub mod Spelled
