pub mod Places
pub mod Rising
pub mod NextKeyLaws
pub mod MapSteps
pub mod ArrayLaws
pub mod IsArrayLaws
pub mod ArrayMapLaws
mod Examples
pub mod Measures
pub mod Values
