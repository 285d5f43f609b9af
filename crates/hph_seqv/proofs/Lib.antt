pub mod Steps
pub mod Rows
pub mod Joins
pub mod Values
pub mod Variables
pub mod Choices
pub mod Proved
