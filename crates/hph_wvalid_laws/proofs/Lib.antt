pub mod FirstFaults
pub mod FirstObstacles
pub mod Examples
