pub mod Firsts
pub mod Overwrites
