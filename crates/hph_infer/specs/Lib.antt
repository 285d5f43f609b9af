pub mod Reports
pub mod Raising
pub mod Sweep
pub mod Team
