pub mod Words
pub mod Repeats
pub mod Declarations
pub mod Statements
pub mod Parser
pub mod Laws
