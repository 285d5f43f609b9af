pub mod Braces
pub mod Nests
