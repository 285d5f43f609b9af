pub mod Facts
pub mod Lowerable
pub mod Laws
