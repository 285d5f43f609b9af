pub mod Shown
pub mod Weights
pub mod Numerics
