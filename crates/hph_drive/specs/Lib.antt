pub mod Words
pub mod Names
pub mod Lines
pub mod Sources
pub mod Answers
