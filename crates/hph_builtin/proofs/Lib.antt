pub mod Shown
pub mod Silent
