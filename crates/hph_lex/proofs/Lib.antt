mod ByteLaws
mod EndingLaws
mod TableLaws
mod OneReading
mod Starts
mod Places
mod DecimalLaws
mod Steps
mod ReadSoFar
mod EveryFile
pub mod Whitespace
