pub mod Classes
pub mod Tables
pub mod Answers
pub mod Casts
pub mod Readings
