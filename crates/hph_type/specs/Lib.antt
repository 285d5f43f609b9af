pub mod Kinds
pub mod Types
pub mod Classes
pub mod Order
pub mod Codes
pub mod Rank
pub mod Membership
pub mod Laws
