pub mod ConstantParts
