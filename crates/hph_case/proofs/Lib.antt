pub mod LookUps
