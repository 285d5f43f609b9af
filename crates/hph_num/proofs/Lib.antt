pub mod ArithmeticLaws
pub mod PowerLemmas
pub mod ProductLemmas
pub mod RangeLemmas
pub mod ShiftLaws
