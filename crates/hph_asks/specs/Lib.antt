pub mod Types
pub mod Asks
pub mod Graph
pub mod System
pub mod Plain
