pub mod InTurn
pub mod ExpressionParts
pub mod Starts
pub mod Words
pub mod Paths
pub mod LastStep
pub mod StatementParts
pub mod Repeats
