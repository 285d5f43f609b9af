pub mod Simulates
pub mod Replies
pub mod Laws
