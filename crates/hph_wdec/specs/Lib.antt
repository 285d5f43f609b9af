pub mod Answers
pub mod Locals
pub mod Sized
pub mod Next
