pub mod ShortestNumbers
pub mod Bytewise
pub mod OneNumber
pub mod Fronts
pub mod HighBits
pub mod SpelledNumbers
pub mod ReadBack
mod Examples
