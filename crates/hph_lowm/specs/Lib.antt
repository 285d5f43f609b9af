pub mod Program
pub mod Layout
pub mod Compiles
