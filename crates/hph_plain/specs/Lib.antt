pub mod Waiting
pub mod Run
