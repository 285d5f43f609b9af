pub mod Capped
pub mod DigitSteps
mod Examples
pub mod Fronts
pub mod PieceSteps
pub mod Runs
pub mod SingleQuotes
pub mod Utf8
