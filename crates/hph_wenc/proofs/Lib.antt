pub mod NumberLaws
pub mod Vectors
pub mod Views
pub mod Blocks
pub mod Runs
pub mod Nonempty
pub mod ShortSections
pub mod SpelledParts
pub mod SpelledCode
pub mod SpelledSections
pub mod SpelledModule
mod Examples
