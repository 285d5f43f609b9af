pub mod Exports
pub mod Imported
pub mod Rows
