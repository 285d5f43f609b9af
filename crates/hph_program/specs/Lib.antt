pub mod Sites
pub mod Sources
pub mod Program
pub mod Names
pub mod WellFormed
pub mod Laws
