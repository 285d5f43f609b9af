pub mod Shown
pub mod Answers
pub mod PairSteps
pub mod Writes
