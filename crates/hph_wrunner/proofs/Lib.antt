pub mod Added
pub mod Valid
