pub mod Scopes
pub mod Steady
pub mod Parts
pub mod Cells
pub mod Flows
pub mod Assignment
