pub mod Firsts
pub mod Instances
