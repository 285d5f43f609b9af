pub mod Ready
pub mod Taking
pub mod Values
