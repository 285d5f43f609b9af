pub mod Faults
pub mod Answers
pub mod Waves
pub mod Reading
pub mod Refusals
