pub mod Climbs
pub mod Calls
pub mod Kept
