pub mod Core
pub mod Machine
pub mod Standing
pub mod Written
pub mod Changes
