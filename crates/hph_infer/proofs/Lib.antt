pub mod Raised
pub mod Sweeps
pub mod Packs
pub mod Teams
