pub mod Branches
pub mod Ifs
pub mod Entries
pub mod Arguments
