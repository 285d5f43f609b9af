pub mod Code
pub mod Expressions
pub mod Statements
pub mod Bodies
