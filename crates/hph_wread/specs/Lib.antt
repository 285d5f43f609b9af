pub mod Reading
pub mod Counted
pub mod Kinds
pub mod Forms
pub mod Nesting
pub mod InstructionLaws
