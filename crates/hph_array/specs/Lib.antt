pub mod Bytes
pub mod Key
pub mod Keys
pub mod Array
pub mod Lends
pub mod formers
