pub mod Stacks
pub mod Checking
pub mod Kinds
pub mod Spaces
pub mod Outside
pub mod Functions
pub mod Answers
