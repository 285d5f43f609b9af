pub mod Steps
pub mod Next
pub mod Reads
