pub mod State
pub mod Effects
pub mod Rule
pub mod Conditions
pub mod Events
pub mod Laws
