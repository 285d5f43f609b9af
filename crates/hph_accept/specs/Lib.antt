pub mod Enclosed
pub mod Order
pub mod Paths
pub mod Parts
pub mod Names
