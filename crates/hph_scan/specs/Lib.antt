pub mod Bytes
pub mod Digits
pub mod Escapes
pub mod Fronts
pub mod Numbers
pub mod Pieces
pub mod Strings
