pub mod Texts
pub mod Gives
