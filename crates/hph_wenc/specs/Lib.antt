pub mod Code
pub mod Fits
pub mod Runs
pub mod Sections
