pub mod Standing
pub mod Zeros
pub mod Kept
pub mod Arguments
