pub mod Reached
pub mod Program
