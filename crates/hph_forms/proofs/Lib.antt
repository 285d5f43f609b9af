pub mod Lists
pub mod Objects
pub mod Walks
pub mod PathRows
pub mod Pins
pub mod Tries
pub mod Sets
