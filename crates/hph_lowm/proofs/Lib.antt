pub mod SpellingLengths
pub mod LayoutIsWritable
pub mod LayoutIsValid
pub mod LayoutRuns
