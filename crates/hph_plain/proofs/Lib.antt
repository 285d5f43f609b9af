pub mod Members
pub mod Waits
pub mod Rises
