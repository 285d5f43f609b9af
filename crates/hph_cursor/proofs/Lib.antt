pub mod Variants
pub mod Turns
pub mod Shorter
pub mod Tools
