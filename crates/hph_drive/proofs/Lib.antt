pub mod PositionalWords
pub mod AfterTheLine
pub mod CausesExclude
