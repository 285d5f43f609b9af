pub mod Imports
pub mod Modules
