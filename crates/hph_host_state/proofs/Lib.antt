pub mod Shown
pub mod Takings
