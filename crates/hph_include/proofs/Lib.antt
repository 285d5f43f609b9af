mod OneMore
pub mod Sent
mod Fronts
